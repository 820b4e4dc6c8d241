use Rattle.std.proofs.Common.{length}
use Rattle.test_engine.proofs.refusals.standing.put_bindings.Given as goal

abbrev pub decreases-loop-binding : goal.decreases-loop-binding
decreases-loop-binding l = length l.live
