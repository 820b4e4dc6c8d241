use Rattle.sipd_tools.proofs.Clocked.{all_so_far, none_so_far, so_far_more}
use Rattle.sipd_tools.proofs.clocks.add_zones.Goals as goal

pub parts-init : goal.parts-init
parts-init g c = none_so_far c.in_ok-lines.lines _ _ c.in_ok-lines.ensures

pub parts-preserved : goal.parts-preserved
parts-preserved g c =
    so_far_more _ _ _ _ _ _ _ _ c.in-Some.part c.parts.invariant (rw c.in-Some.is at c.in_ok-part.ensures.said) c.in_ok-push_zone.ensures
    c.set_behind-set.ensures
