use Rattle.std.proofs.Common.{refl}
use Rattle.std.proofs.lemmas.Result.{err_from_is_err_and}
use Rattle.sip_run.specs.engine.StepError.{refusal_at}
use Rattle.sip_run.specs.Due.{standing_of}
use Rattle.sip_loop.proofs.WhatIsDue.{fires_some, why_refuses}
use Rattle.sip_loop.proofs.due_moments.fire_one.Goals as goal

pub returns-clause-fired : goal.returns-clause-fired
returns-clause-fired g c =
    fires_some c.args.engine.now.server (c.what_is_due_ends.ensures c.args.engine.now.server) (c.moment_rises.ensures c.args.engine.now.server)
    (c.steps_stand_at_their_moments.ensures c.args.engine.now.server)
    (standing_of c.args.engine.now) (standing_of c.fire_next.new.engine) c.args.at c.is_reached.ensures.first c.is_reached.ensures.history c.in_ok-fired.fired
    c.is_reached.ensures.chain c.in_ok-fired.ensures.fired

pub returns-in_err-fired-clause-refused : goal.returns-in_err-fired-clause-refused
returns-in_err-fired-clause-refused g c =
    let p = err_from_is_err_and c.from_residual.result c.from_residual.ensures.1 in
    rw (p.1, p.2) (why_refuses c.args.at c.in_err-fired.field-0.0 (refusal_at c.args.at) refl c.in_err-fired.ensures.refused)
