use Rattle.std.proofs.Common.{arith}
use Rattle.std.proofs.lemmas.Result.{err_from_is_err_and}
use Rattle.sip_run.specs.engine.StepError.{refusal_at}
use Rattle.sip_run.specs.Due.{standing_of}
use Rattle.sip_loop.proofs.WhatIsDue.{fires_one, ok_not_refused, why_due}
use Rattle.sip_loop.proofs.due_moments.fire_first.Goals as goal

pub returns-clause-fired : goal.returns-clause-fired
returns-clause-fired g c =
    fires_one c.args.engine.now.server (c.what_is_due_ends.ensures c.args.engine.now.server) (c.moment_rises.ensures c.args.engine.now.server)
    (c.steps_stand_at_their_moments.ensures c.args.engine.now.server)
    (standing_of c.args.engine.now) (standing_of c.fire.new.self) c.args.due c.is_reached.ensures.first c.is_reached.ensures.history c.in_ok-out.out
    c.is_reached.ensures.chain (c.in_ok-out.ensures.in_order c.args.due c.requires (omega arith)) c.in_ok-out.ensures.queue

pub returns-clause-at_first : goal.returns-clause-at_first
returns-clause-at_first g c = c.in_ok-out.ensures.at_first c.args.due c.requires (omega arith)

pub returns-clause-not_refused : goal.returns-clause-not_refused
returns-clause-not_refused g c = ok_not_refused (refusal_at c.args.due) c.in_ok-out.out c.in_ok-out.ensures.refused

pub returns-in_err-out-clause-refused : goal.returns-in_err-out-clause-refused
returns-in_err-out-clause-refused g c =
    let p = err_from_is_err_and c.from_residual.result c.from_residual.ensures.1 in
    rw (p.1, p.2) (why_due c.args.due c.in_err-out.field-0.0 c.in_err-out.ensures.otherwise)
