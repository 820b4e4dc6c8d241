use Rattle.std.proofs.Common.{sym, ◌∙◌}
use Rattle.sip_timers_wheel.specs.Wheel.{pending_in}
use Rattle.sip_timers_wheel.proofs.First.{head-late}
use Rattle.sip_timers_wheel.proofs.Steps.{first-none, first-some, match-first, none-first, some-first}
use Rattle.sip_timers_wheel.proofs.wheel_timers.find_first.Goals as goal

pub returns-in-Some-clause-first : goal.returns-in-Some-clause-first
returns-in-Some-clause-first c = some-first c.in-Some.late (pending_in c.args.levels.now.lists)
    (head-late c.earlier_fires_first.ensures.set c.args.reached c.args.levels.now.lists c.requires c.in-Some.late (sym c.in-Some.ensures))

pub returns-in_default-first_slot-clause-first : goal.returns-in_default-first_slot-clause-first
returns-in_default-first_slot-clause-first c = none-first (pending_in c.args.levels.now.lists)
    (first-none c.earlier_fires_first.ensures.set c.args.reached c.args.levels.now.lists c.requires (sym c.least.ensures ∙ c.in_default.is)
    c.in_default-first_slot.ensures.slot)

pub returns-clause-first : goal.returns-clause-first
returns-clause-first c = match-first c.least-2.result (pending_in c.args.levels.now.lists)
    (first-some c.earlier_fires_first.ensures.set c.args.reached c.args.levels.now.lists c.requires (sym c.least.ensures ∙ c.in_default.is) c.in-Some-first_slot.slot.slot
    c.in-Some-first_slot.slot.start c.in-Some-first_slot.ensures.slot.0 c.least-2.result c.in-Some-first_slot.ensures.slot.1
    (rw (← c.remember_least.ensures.same) c.least-2.ensures))
