use Rattle.std.proofs.Common.{ℕ, List, ◌++◌, ◌∙◌, ap}
use Rattle.std.specs.List.{flat_map}
use Rattle.std.proofs.lemmas.Result.{on_ok_weaker}
use Rattle.sip_audit.specs.Lines.{user_byte_text}
use Rattle.sipd_report.specs.Chosen.{user_text}
use Rattle.sipd_calls.proofs.Parts.{in_cell}
use Rattle.sipd_calls.proofs.cells.push_called.Goals as goal

pub returns : goal.returns
returns c =
    let call = c.args.call.now in
    on_ok_weaker c.push_cell.result
    (λ h. in_cell 13 c.args.out.now c.new-cell.result c.push_user.new.text c.as_slice-2.result.now c.push_cell.new.out (user_text call.decision.target)
    c.new-cell.ensures
    (c.in_ok-push_user.ensures ∙ ap (λ (user : List ℕ). c.new-cell.result ++ flat_map user_byte_text user) c.as_slice.ensures) c.as_slice-2.ensures h)
    c.push_cell.ensures
