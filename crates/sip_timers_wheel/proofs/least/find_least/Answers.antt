use Rattle.std.proofs.Common.{◌<◌, length}
use Rattle.slab.specs.Slab.{slab_len}
use Rattle.sip_timers_wheel.specs.Lists.{least}
use Rattle.sip_timers_wheel.specs.Threads.{list_of, walk}
use Rattle.sip_timers_wheel.proofs.Looking.{IsLeft, left_at_first, row_is_next, left_after, found_all}
use Rattle.sip_timers_wheel.proofs.least.find_least.Goals as goal

pub loop-at-init : goal.loop-at-init
loop-at-init c = left_at_first c.args.rows.now c.args.head.now (list_of c.args.rows.now c.args.head.now) c.requires

pub timer_at-requires : goal.timer_at-requires
timer_at-requires c = row_is_next c.args.rows.now c.loop-at.at c.in-Some.number c.loop-at.best _ c.loop-at.invariant c.in-Some.is

step : (c : goal.After-at-in-Some-1) → IsLeft c.args.rows.now (c.index.result.now).next c.sooner-best.result (least (list_of c.args.rows.now c.args.head.now))
    × (length (walk c.args.rows.now (slab_len c.args.rows.now) (c.index.result.now).next) < length (walk c.args.rows.now (slab_len c.args.rows.now) c.loop-at.at))
step c = left_after c.args.rows.now c.loop-at.at c.in-Some.number c.loop-at.best c.sooner-best.result _ c.index.result.now c.timer_at.result c.loop-at.invariant
    c.in-Some.is c.index.ensures c.timer_at.ensures c.sooner-best.ensures

pub loop-at-smaller : goal.loop-at-smaller
loop-at-smaller c = (step c).1

pub loop-at-preserved : goal.loop-at-preserved
loop-at-preserved c = (step c).0

pub returns : goal.returns
returns c = found_all c.args.rows.now c.loop-at.at c.loop-at.best _ c.loop-at.invariant c.in_default.is
