use Rattle.std.proofs.lemmas.Result.{on_ok_weaker}
use Rattle.sipd_calls.specs.Cells.{asked_cells, came_cells, ended_cell}
use Rattle.sipd_calls.proofs.Parts.{three_parts}
use Rattle.sipd_calls.proofs.cells.push_row.Goals as goal

pub returns : goal.returns
returns c =
    let call = c.args.call.now in
    on_ok_weaker c.push_ended.result
    (λ h. three_parts c.args.out.now (asked_cells call) (came_cells call) (ended_cell call) c.push_asked.new.out c.push_decided.new.out
    c.push_ended.new.out c.in_ok-push_asked.ensures c.in_ok-push_decided.ensures h) c.push_ended.ensures
