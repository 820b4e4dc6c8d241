use Rattle.std.proofs.Common.{arith, ◌+◌, ◌<◌, ◌∙◌, ap, sym, Some}
use Rattle.sip_timers.specs.Timers.{placed}
use Rattle.sip_timers.specs.declared.timer.Timer.{Timer}
use Rattle.sip_timers_wheel.specs.Lists.{first_of}
use Rattle.sip_timers_wheel.specs.Threads.{sooner}
use Rattle.sip_timers_wheel.specs.Wheel.{pending_in}
use Rattle.sip_timers_wheel.proofs.Steps.{added-wheel, added-pending, added-fresh, first-placed}
use Rattle.sip_timers_wheel.proofs.wheel_timers.WheelTimersTimers.add.Goals as goal

pub invariant_of-self-2 : goal.invariant_of-self-2
invariant_of-self-2 c =
    let near : c.args.due < c.self.inside.reached + 1073741824 = omega (arith, c.saturating_sub.ensures, c.if-saturating_sub-ge-TOO_FAR.false) in
    let timer : Timer = record { key = c.in_ok-key.key; due = c.args.due; name = c.args.name } in
    record {
      wheel = added-wheel c.self.inside.reached c.self.inside.levels.lists c.push.new.self.lists timer c.slot_of-slot.result c.self.invariant.wheel near
          c.slot_of-slot.ensures c.in_ok-key.ensures.pushed;
      first = c.keep_sooner.ensures
          ∙ (ap (λ first. sooner first (Some timer)) c.self.invariant.first
          ∙ (first-placed timer (pending_in c.self.inside.levels.lists)
          ∙ ap (λ ts. first_of ts) (sym (added-pending c.self.inside.reached c.self.inside.levels.lists c.push.new.self.lists timer c.slot_of-slot.result
          c.self.invariant.wheel near c.slot_of-slot.ensures c.in_ok-key.ensures.pushed c.earlier_fires_first.ensures.set))));
    }

pub returns-clause-added : goal.returns-clause-added
returns-clause-added c =
    let near : c.args.due < c.self.inside.reached + 1073741824 = omega (arith, c.saturating_sub.ensures, c.if-saturating_sub-ge-TOO_FAR.false) in
    added-pending c.self.inside.reached c.self.inside.levels.lists c.push.new.self.lists (record { key = c.in_ok-key.key; due = c.args.due; name = c.args.name })
    c.slot_of-slot.result c.self.invariant.wheel near c.slot_of-slot.ensures c.in_ok-key.ensures.pushed c.earlier_fires_first.ensures.set
    ∙ ap (λ q. placed (record { key = c.in_ok-key.key; due = c.args.due; name = c.args.name }) q.pending) c.self.view_is

pub returns-clause-fresh : goal.returns-clause-fresh
returns-clause-fresh c = rw (← c.self.view_is) (added-fresh c.timer_stands.ensures c.in_ok-key.key c.self.inside.levels.lists c.in_ok-key.ensures.fresh)
