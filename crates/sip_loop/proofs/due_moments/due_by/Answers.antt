use Rattle.std.proofs.Common.{◌≡◌, arith}
use Rattle.sip_model.specs.steps_model.Step.{moment_of}
use Rattle.sip_run.proofs.Waiting.{not_yet, none_some}
use Rattle.sip_loop.proofs.due_moments.due_by.Goals as goal

pub returns-in_default-clause-none : goal.returns-in_default-clause-none
returns-in_default-clause-none g c =
    let none = c.next_due.ensures.none_by (moment_of c.args.engine.now.state c.args.at)
    (λ due e. none_some c.next_due.result due (moment_of c.args.engine.now.state c.args.at) c.in_default.is e) in
    record { none = none.0; none_again = none.1 }

pub returns-then-max-due-clause-none : goal.returns-then-max-due-clause-none
returns-then-max-due-clause-none g c =
    let same : c.max.result ≡ moment_of c.args.engine.now.state c.args.at = omega (arith, c.max.ensures, c.moment.ensures.value) in
    let none = c.next_due.ensures.none_by (moment_of c.args.engine.now.state c.args.at)
    (λ due e. not_yet c.next_due.result c.in-Some.due due c.max.result (moment_of c.args.engine.now.state c.args.at) c.in-Some.is e c.if-max-due.true same) in
    record { none = none.0; none_again = none.1 }
