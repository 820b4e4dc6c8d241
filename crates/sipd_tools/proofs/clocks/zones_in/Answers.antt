use Rattle.std.proofs.Common.{refl}
use Rattle.sipd_tools.proofs.Clocked.{one_more}
use Rattle.sipd_tools.proofs.clocks.zones_in.Goals as goal

pub loop-path-preserved : goal.loop-path-preserved
loop-path-preserved g c = one_more c.loop-path.path-index _ _ c.loop-path.invariant c.in_ok-add_zones_in.ensures
