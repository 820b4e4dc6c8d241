use Rattle.std.proofs.Common.{ℕ, List, ◌++◌, ◌∙◌, ap}
use Rattle.std.proofs.lemmas.Result.{on_ok_weaker}
use Rattle.sip_audit.specs.Lines.{who_text}
use Rattle.sipd_calls.specs.Cells.{called_cell, cell, number_cell, start_cell}
use Rattle.sipd_calls.proofs.Parts.{four_parts}
use Rattle.sipd_calls.proofs.cells.push_asked.Goals as goal

pub returns : goal.returns
returns c =
    let call = c.args.call.now in
    on_ok_weaker c.push_called.result
    (λ h. four_parts c.args.out.now (number_cell call.decision.number) (start_cell call) (cell 8 (who_text call.decision.who)) (called_cell call)
    c.push_number.new.out c.push_began.new.out c.push_cell.new.out c.push_called.new.out c.in_ok-push_number.ensures c.in_ok-push_began.ensures
    (c.in_ok-push_cell.ensures ∙ ap (λ (text : List ℕ). c.push_began.new.out ++ cell 8 text) c.who_word.ensures) h) c.push_called.ensures
