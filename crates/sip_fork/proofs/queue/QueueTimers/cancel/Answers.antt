use Rattle.sip_fork.proofs.Ordering.{IsQueue-without}
use Rattle.sip_fork.proofs.queue.QueueTimers.cancel.Goals as goal

pub invariant_of-self : goal.invariant_of-self
invariant_of-self g c = IsQueue-without (g.T.Timers.pending c.self.inside.timers) (g.T.Timers.pending c.cancel.new.self) c.args.key c.self.invariant c.cancel.ensures.gone
