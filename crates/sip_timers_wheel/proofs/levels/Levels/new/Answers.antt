use Rattle.sip_timers_wheel.proofs.Marked.{no-marks}
use Rattle.sip_timers_wheel.proofs.levels.Levels.new.Goals as goal

pub invariant_of-result : goal.invariant_of-result
invariant_of-result c = no-marks c.in_ok-new.field-0.lists c.in_ok-new.ensures
