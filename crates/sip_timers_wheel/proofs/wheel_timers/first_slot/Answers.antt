use Rattle.std.proofs.Common.{◌≡◌, ◌+◌, ◌*◌, ◌/◌, ◌%◌, ◌≤◌, ◌<◌, length, arith, sym, ◌∙◌, ap, subst, ℕ}
use Rattle.sip_timers_wheel.specs.Lists.{list_at}
use Rattle.sip_timers_wheel.specs.Places.{width, start_of, level_of}
use Rattle.sip_timers_wheel.specs.Order.{due_at}
use Rattle.sip_timers_wheel.specs.Wheel.{IsFirstSlot, IsEmptyLevel}
use Rattle.sip_timers_wheel.proofs.First.{first-slot, level-is, stands}
use Rattle.sip_timers_wheel.proofs.Steps.{some-due}
use Rattle.sip_timers_wheel.proofs.Changes.{by_same}
use Rattle.sip_timers_wheel.proofs.wheel_timers.first_slot.Goals as goal

round-of : (q from : ℕ) → from ≡ (q % 64 + 1) % 64 → from ≡ (q + 1) % 64
round-of q from e = omega (arith, e)

pub returns-in-Some-clause-slot : goal.returns-in-Some-clause-slot
returns-in-Some-clause-slot c =
    let b = c.args.reached in
    let lists = c.args.levels.now.lists in
    let level = c.loop-level.level in
    let low : level < 5 = omega (arith, c.loop-level-test.true) in
    let from : ℕ = (c.position.result % 64 + 1) % 64 in
    let offset = c.in-Some.offset in
    let due = c.in_ok-due.due in
    let from-is : from ≡ (b / width level + 1) % 64 = round-of (b / width level) from (ap (λ p. (p % 64 + 1) % 64) c.position.ensures) in
    let some : 1 ≤ length (due_at due (list_at lists (level * 64 + (from + offset) % 64))) =
    some-due (list_at lists (level * 64 + (from + offset) % 64)) due (sym c.in_ok-due.ensures) in
    let is : level_of b due ≡ level = level-is b lists level from offset due c.requires from-is low c.loop-level.invariant c.in-Some.ensures some in
    let start : start_of b due ≡ c.position-in-Some.result * c.width.result = ap (λ k. due / width k * width k) is
    ∙ (ap (λ p. p * width level) (sym c.position-in-Some.ensures) ∙ ap (λ w. c.position-in-Some.result * w) (sym c.width.ensures)) in (
      start_of b due + width (level_of b due),
      subst (λ s. IsFirstSlot b lists (level * 64 + (from + offset) % 64) s (start_of b due + width (level_of b due))) start
          (first-slot b lists level from offset due c.requires from-is low c.loop-level.invariant c.in-Some.ensures some),
    )

pub returns-in-Some-clause-front : goal.returns-in-Some-clause-front
returns-in-Some-clause-front c =
    let b = c.args.reached in
    let lists = c.args.levels.now.lists in
    let level = c.loop-level.level in
    let from : ℕ = (c.position.result % 64 + 1) % 64 in
    let offset = c.in-Some.offset in
    let due = c.in_ok-due.due in
    stands b lists level from offset due c.requires (round-of (b / width level) from (ap (λ p. (p % 64 + 1) % 64) c.position.ensures))
    (omega (arith, c.loop-level-test.true)) c.loop-level.invariant c.in-Some.ensures
    (some-due (list_at lists (level * 64 + (from + offset) % 64)) due (sym c.in_ok-due.ensures))

pub loop-level-preserved : goal.loop-level-preserved
loop-level-preserved c = λ lower lt. by_same (IsEmptyLevel c.args.levels.now.lists lower) lower c.loop-level.level
    (λ e. subst (λ l. IsEmptyLevel c.args.levels.now.lists l) (sym e) c.in_default.ensures)
    (λ n. c.loop-level.invariant lower (omega (arith, lt, n)))
