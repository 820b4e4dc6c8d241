use Rattle.std.proofs.lemmas.Result.{on_ok_weaker}
use Rattle.sipd_calls.specs.Words.{ring_text}
use Rattle.sipd_calls.proofs.Parts.{in_cell}
use Rattle.sipd_calls.proofs.cells.push_rang.Goals as goal

pub returns : goal.returns
returns c =
    on_ok_weaker c.push_cell.result
    (λ h. in_cell 4 c.args.out.now c.new-cell.result c.push_ring.new.text c.as_slice.result.now c.push_cell.new.out (ring_text c.args.ring)
    c.new-cell.ensures c.in_ok-push_ring.ensures c.as_slice.ensures h) c.push_cell.ensures
