use Rattle.sip_fork.proofs.Joined.{joined}
use Rattle.sip_fork.proofs.firing.orders_join.Goals as goal

pub returns : goal.returns
returns c = joined c.queues_join.ensures
