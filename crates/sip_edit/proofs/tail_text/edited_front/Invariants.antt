use Rattle.std.proofs.Common.{◌≡◌, ◌≤◌, true, drop, length}
use Rattle.std.specs.List.{list_all}
use Rattle.sip_edit.specs.Lowering.{goes_as_it_is}
use Rattle.sip_edit.proofs.tail_text.edited_front.Given as goal

abbrev pub invariant-loop-front : goal.invariant-loop-front
invariant-loop-front l = (l.front ≤ length l.fields) × (list_all goes_as_it_is (drop l.front l.fields) ≡ true)

abbrev pub decreases-loop-front : goal.decreases-loop-front
decreases-loop-front l = l.front
