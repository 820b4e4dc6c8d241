use Rattle.sip_fork.proofs.Ordering.{IsQueue-added}
use Rattle.sip_fork.proofs.queue.QueueTimers.add.Goals as goal

pub invariant_of-self : goal.invariant_of-self
invariant_of-self g c = IsQueue-added (g.T.Timers.pending c.self.inside.timers) (g.T.Timers.pending c.add.new.self) c.args.due c.args.name c.add.result c.self.invariant
    c.add.ensures.added c.add.ensures.err
