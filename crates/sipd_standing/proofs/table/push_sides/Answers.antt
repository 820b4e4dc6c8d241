use Rattle.std.proofs.Common.{ℕ, List, ◌++◌, ◌∙◌, ap}
use Rattle.std.proofs.lemmas.Result.{on_ok_weaker}
use Rattle.sip_audit.specs.Lines.{who_text}
use Rattle.sipd_calls.specs.Cells.{cell, rule_cell}
use Rattle.sipd_calls.proofs.Parts.{three_parts}
use Rattle.sipd_standing.specs.Standing.{called_cell}
use Rattle.sipd_standing.proofs.table.push_sides.Goals as goal

pub returns : goal.returns
returns c =
    let call = c.args.call.now in
    on_ok_weaker c.push_ruled.result
    (λ h. three_parts c.args.out.now (cell 12 (who_text call.decision.who)) (called_cell call) (rule_cell call) c.push_cell.new.out c.push_called.new.out
    c.push_ruled.new.out (c.in_ok-push_cell.ensures ∙ ap (λ (text : List ℕ). c.args.out.now ++ cell 12 text) c.who_word.ensures)
    c.in_ok-push_called.ensures h) c.push_ruled.ensures
