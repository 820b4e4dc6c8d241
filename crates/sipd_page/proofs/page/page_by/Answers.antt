use Rattle.std.proofs.Common.{◌≡◌, ℕ, List, ap, ap₂, ◌∙◌}
use Rattle.std.proofs.lemmas.Result.{IfOk-weaker}
use Rattle.sip_days.specs.declared.call.Call.{Call}
use Rattle.sipd_calls.specs.Program.{objects_text}
use Rattle.sipd_calls.specs.declared.notation.Notation.TheVariants.{Html}
use Rattle.sipd_page.specs.History.{every_call}
use Rattle.sipd_page.specs.Page.{page_by, page_text}
use Rattle.sipd_page.proofs.page.page_by.Goals as goal

pub returns : goal.returns
returns c =
    let log = c.args.log.now in
    let history = c.args.history.now in
    let body = c.args.body.now in
    IfOk-weaker c.page_of.result (λ (text : List ℕ). text ≡ page_text log c.as_slice-2.result.now c.as_slice-3.result.now c.as_slice-4.result.now)
    (λ (text : List ℕ). text ≡ page_by log history.lines history.calls body)
    (λ text h. h
    ∙ ap₂ (λ (lines : List (List ℕ)) (behind : List ℕ). page_text log lines c.as_slice-3.result.now behind) c.as_slice-2.ensures c.as_slice-4.ensures
    ∙ ap (λ (rows : List ℕ). page_text log history.lines rows body)
    (c.as_slice-3.ensures ∙ c.in_ok-rows.ensures ∙ ap (λ (calls : List Call). objects_text Html every_call calls) c.as_slice.ensures)) c.page_of.ensures
