use Rattle.std.proofs.Common.{◌≡◌, sym, ◌∙◌, ap, arith}
use Rattle.sip_timers_wheel.specs.Wheel.{pending_in}
use Rattle.sip_timers_wheel.proofs.Steps.{first-is, first-split, none-due, none-of, popped-first, popped-none}
use Rattle.sip_timers_wheel.proofs.wheel_timers.WheelTimersTimers.pop_due.Goals as goal

pub returns-clause-taken : goal.returns-clause-taken
returns-clause-taken c =
    let same : c.args.self.now.pending ≡ pending_in c.self.inside.levels.lists = sym c.reach.ensures.same ∙ ap (λ q. q.pending) (sym c.self.view_is) in
    popped-first c.args.now c.in_ok-first.first c.args.self.now.pending (pending_in c.self.inside.levels.lists) (pending_in c.take_out.new.levels.lists) same
    (first-is c.in_ok-first.first (pending_in c.self.inside.levels.lists) (sym c.in_ok-first.was ∙ c.self.invariant.first)) c.take_out.ensures.gone
    c.take_out.ensures.once c.if-first-now.false

pub returns-clause-some : goal.returns-clause-some
returns-clause-some c =
    let same : c.args.self.now.pending ≡ pending_in c.self.inside.levels.lists = sym c.reach.ensures.same ∙ ap (λ q. q.pending) (sym c.self.view_is) in (
      first-split c.in_ok-first.first c.args.self.now.pending (pending_in c.self.inside.levels.lists) (pending_in c.take_out.new.levels.lists) same
          (first-is c.in_ok-first.first (pending_in c.self.inside.levels.lists) (sym c.in_ok-first.was ∙ c.self.invariant.first)) c.take_out.ensures.gone
          c.take_out.ensures.once,
      c.if-first-now.false,
    )

pub returns-in_err-first-clause-taken : goal.returns-in_err-first-clause-taken
returns-in_err-first-clause-taken c =
    let same : c.args.self.now.pending ≡ pending_in c.self.inside.levels.lists = sym c.reach.ensures.same ∙ ap (λ q. q.pending) (sym c.self.view_is) in
    rw c.from_residual.ensures (ap (λ l. none-of l) (ap (λ q. q.pending) (sym c.self.view_is))
    ∙ popped-none c.args.now c.self.inside.reached c.args.self.now.pending (pending_in c.self.inside.levels.lists) same
    (omega (arith, c.reach.ensures.later, ap (λ q. q.reached) c.self.view_is)) (none-due c.self.inside.reached (pending_in c.self.inside.levels.lists)
    (sym c.in_err-first.was ∙ c.self.invariant.first)))
