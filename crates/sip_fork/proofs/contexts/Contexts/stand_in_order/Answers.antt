use Rattle.sip_fork.specs.Contexts.{Contexts}
use Rattle.sip_fork.specs.Firing.{IsQueueOf}
use Rattle.std.proofs.Common.{subst}
use Rattle.sip_fork.proofs.Queueing.{queue_of_rows, queue_stays}
use Rattle.sip_fork.proofs.contexts.Contexts.stand_in_order.Goals as goal

pub returns-clause-timers : goal.returns-clause-timers
returns-clause-timers g c =
    subst (λ (v : Contexts). IsQueueOf v.pending v.requests) c.self.view_is
    (queue_of_rows c.timers_are_apart.ensures c.self.inside.timers.pending c.self.inside.timers.reached c.self.inside.table.rows c.self.invariant.tied
    c.stand_in_order.ensures)

pub returns-clause-still : goal.returns-clause-still
returns-clause-still g c = queue_stays c.args.self.now.pending c.args.self.now.requests (returns-clause-timers g c)
