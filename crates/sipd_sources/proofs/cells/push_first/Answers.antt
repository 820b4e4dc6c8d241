use Rattle.std.proofs.lemmas.Result.{on_ok_weaker}
use Rattle.sipd_calls.specs.Moments.{start_text}
use Rattle.sipd_calls.proofs.Parts.{in_cell}
use Rattle.sipd_sources.proofs.cells.push_first.Goals as goal

pub returns : goal.returns
returns c =
    on_ok_weaker c.push_cell.result
    (λ h. in_cell 14 c.args.out.now c.new-cell.result c.push_moment.new.text c.as_slice.result.now c.push_cell.new.out
    (start_text c.args.moment.offset c.args.moment.at) c.new-cell.ensures c.in_ok-push_moment.ensures c.as_slice.ensures h) c.push_cell.ensures
