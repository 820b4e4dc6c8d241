use Rattle.std.proofs.Common.{decimal}
use Rattle.std.proofs.lemmas.Result.{on_ok_weaker}
use Rattle.sipd_calls.proofs.Parts.{in_cell}
use Rattle.sipd_sources.proofs.cells.push_count.Goals as goal

pub returns : goal.returns
returns c =
    on_ok_weaker c.push_cell.result
    (λ h. in_cell c.args.width c.args.out.now c.new-cell.result c.push_decimal.new.self c.as_slice.result.now c.push_cell.new.out (decimal c.args.count)
    c.new-cell.ensures c.in_ok-push_decimal.ensures.ok c.as_slice.ensures h) c.push_cell.ensures
