use Rattle.std.proofs.Common.{arith}
use Rattle.sip_timers.proofs.Placing.{place_at-le, placed_is}
use Rattle.sip_timers.proofs.list_timers.place.Goals as goal

pub insert-requires : goal.insert-requires
insert-requires c = grind (arith, place_at-le c.args.timer.due c.deref.result.now)

pub returns-clause-ok : goal.returns-clause-ok
returns-clause-ok c = rw (c.in_ok-insert.ensures.items, c.place_of-at.ensures, c.deref.ensures.value) (placed_is c.args.timer c.args.rows.now.items)
