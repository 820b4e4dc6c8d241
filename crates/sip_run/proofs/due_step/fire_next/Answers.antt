use Rattle.std.proofs.Common.{◌≡◌, ◌≤◌, ◌⊎◌, Ok, arith}
use Rattle.sip_event.specs.declared.event.StepOut.{StepOut}
use Rattle.sip_engine.specs.steps_model.Step.{moment_of, IsDeadline, IsResend}
use Rattle.sip_engine.specs.StepError.{refusal_at}
use Rattle.sip_run.proofs.Refusing.{not_refused}
use Rattle.sip_run.proofs.Waiting.{none_some, not_yet}
use Rattle.sip_run.proofs.due_step.fire_next.Goals as goal

pub returns-in_default-clause-none : goal.returns-in_default-clause-none
returns-in_default-clause-none g c =
    let none = c.next_due.ensures.none_by (moment_of c.args.engine.now.state c.args.at)
    (λ due e. none_some c.next_due.result due (moment_of c.args.engine.now.state c.args.at) c.in_default.is e) in
    record { none = none.0; none_again = none.1 }

pub returns-then-max-due-clause-none : goal.returns-then-max-due-clause-none
returns-then-max-due-clause-none g c =
    let same : c.max.result ≡ moment_of c.args.engine.now.state c.args.at = omega (arith, c.max.ensures, c.moment.ensures.value) in
    let none = c.next_due.ensures.none_by (moment_of c.args.engine.now.state c.args.at)
    (λ due e. not_yet c.next_due.result c.in-Some.due due c.max.result (moment_of c.args.engine.now.state c.args.at) c.in-Some.is e c.if-max-due.true same) in
    record { none = none.0; none_again = none.1 }

pub returns-clause-fired : goal.returns-clause-fired
returns-clause-fired g c =
    let old = c.args.engine.now.state in
    let in_time : c.in-Some.due ≤ moment_of old c.args.at = omega (arith, c.max.ensures, c.moment.ensures.value, c.if-max-due.false) in
    let happens : IsDeadline c.args.engine.now.server old c.args.at c.in_ok-out.out c.fire.new.self.state
    ⊎ IsResend c.args.engine.now.server old c.args.at c.in_ok-out.out c.fire.new.self.state =
    c.in_ok-out.ensures.happens c.in-Some.due c.in-Some.ensures.first in_time in
    record {
      not_refused = not_refused {X = StepOut} (refusal_at c.args.at) (Ok c.in_ok-out.out) c.in_ok-out.ensures.refused;
      is_due = record { due = c.in-Some.due; is_due = c.in-Some.ensures.first.is_due; in_time = in_time };
      happens = c.in_ok-out.ensures.in_order c.in-Some.due c.in-Some.ensures.first in_time;
      queue = c.in_ok-out.ensures.queue;
      fewer_left = c.what_is_due_ends.ensures c.args.engine.now.server c.is_reached.ensures.first c.is_reached.ensures.history old c.fire.new.self.state c.args.at
          c.in_ok-out.out c.is_reached.ensures.chain happens;
    }
