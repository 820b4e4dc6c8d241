use Rattle.std.proofs.Common.{List, ℕ, codes, sym, ap, ◌∙◌}
use Rattle.sip_text.specs.Words.{is_same_text}
use Rattle.sip_edit.proofs.AskedLast.{asked_last}
use Rattle.sip_edit.proofs.top_via.before_last.Goals as goal

pub returns : goal.returns
returns c =
    asked_last c.args.value.now c.in_ok-front.front.now c.args.via.now c.in_ok-first.first c.requires c.in_ok-first.ensures
    (ap (λ (w : List ℕ). is_same_text w (codes "rport")) (sym c.as_slice-before.ensures) ∙ sym c.same_no_case.ensures ∙ c.if-same_no_case.false)
    (ap (λ (w : List ℕ). is_same_text w (codes "received")) (sym c.as_slice-before.ensures) ∙ sym c.same_no_case-2.ensures ∙ c.if-same_no_case-2.false)
    c.in_ok-front.ensures
