use Rattle.std.proofs.Common.{sym}
use Rattle.sip_fork.proofs.Earliest.{nothing_due, first_at}
use Rattle.sip_fork.proofs.contexts.Contexts.first_moment.Goals as goal

pub returns-in_err-first : goal.returns-in_err-first
returns-in_err-first g c = rw c.from_residual.ensures (rw (← c.self.view_is)
    (nothing_due c.timers_stand_for_moments.ensures c.self.inside.timers.pending c.self.inside.timers.reached c.self.inside.table.rows c.self.invariant.tied
    (sym c.in_err-first.ensures.first)))

pub returns : goal.returns
returns g c = rw (← c.self.view_is)
    (first_at c.timers_stand_for_moments.ensures c.self.inside.timers.pending c.self.inside.timers.reached c.self.inside.table.rows c.self.invariant.tied
    c.in_ok-first.first.0 c.in_ok-first.first.1 c.first.ensures.order (sym c.in_ok-first.ensures.first) c.len-open.ensures.rise)
