use Rattle.std.proofs.lemmas.Result.{on_ok_weaker}
use Rattle.sip_days.specs.Results.{result_of}
use Rattle.sipd_calls.specs.Words.{result_text}
use Rattle.sipd_calls.proofs.Parts.{in_cell}
use Rattle.sipd_calls.proofs.cells.push_came.Goals as goal

pub returns : goal.returns
returns c =
    on_ok_weaker c.push_cell.result
    (λ h. in_cell 9 c.args.out.now c.new-cell.result c.push_came_of.new.text c.as_slice.result.now c.push_cell.new.out
    (result_text (result_of c.args.call.now)) c.new-cell.ensures c.in_ok-push_came_of.ensures c.as_slice.ensures h) c.push_cell.ensures
