use Rattle.sipd_old_record.proofs.Asking.{asked_after}
use Rattle.sipd_old_record.proofs.old_record.next_byte.Goals as goal

pub returns-in-Ok-clause-asked : goal.returns-in-Ok-clause-asked
returns-in-Ok-clause-asked g c = asked_after _ _ _ c.loop.counter c.loop.invariant.1 c.ask_byte.ensures.asked

pub returns-in_default-clause-asked : goal.returns-in_default-clause-asked
returns-in_default-clause-asked g c = asked_after _ _ _ c.loop.counter c.loop.invariant.1 c.ask_byte.ensures.asked
