use Rattle.std.proofs.Common.{arith}
use Rattle.sip_timers.proofs.Placing.{keys_with-le, keys_from-placed}
use Rattle.sip_timers.proofs.list_timers.ListTimersTimers.add.Goals as goal

pub returns-clause-fresh : goal.returns-clause-fresh
returns-clause-fresh c = rw (← c.self.view_is) (omega (arith, keys_with-le c.self.inside.next_key c.self.inside.rows.items, c.self.invariant))

pub invariant_of-self-2 : goal.invariant_of-self-2
invariant_of-self-2 c = rw c.in_ok-place.ensures.ok (keys_from-placed c.self.inside.next_key c.args.due c.args.name c.self.inside.rows.items c.self.invariant)
