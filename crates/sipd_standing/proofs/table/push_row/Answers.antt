use Rattle.std.proofs.Common.{◌-◌, ◌++◌, ◌∙◌, ap}
use Rattle.std.proofs.lemmas.Result.{on_ok_weaker}
use Rattle.sipd_calls.specs.Cells.{cell, number_cell}
use Rattle.sipd_calls.proofs.Parts.{five_parts}
use Rattle.sipd_standing.specs.Standing.{for_cell, side_cells, since_cell}
use Rattle.sipd_standing.proofs.table.push_row.Goals as goal

pub returns : goal.returns
returns c =
    let call = c.args.call.now in
    on_ok_weaker c.push_for.result
    (λ h. five_parts c.args.out.now (number_cell call.decision.number) (since_cell call c.args.since) (side_cells call) (cell 7 c.args.word.now)
    (for_cell (c.args.at - c.args.since)) c.push_number.new.out c.push_since.new.out c.push_sides.new.out c.push_cell.new.out c.push_for.new.out
    c.in_ok-push_number.ensures c.in_ok-push_since.ensures c.in_ok-push_sides.ensures c.in_ok-push_cell.ensures
    (h ∙ ap (λ n. c.push_cell.new.out ++ for_cell n) c.saturating_sub.ensures)) c.push_for.ensures
