use Rattle.std.proofs.Common.{sym, ap, ◌∙◌}
use Rattle.std.specs.Prelude.{Ok}
use Rattle.std.proofs.lemmas.Result.{err_from_is_err_and}
use Rattle.sip_uri.specs.Reading.{parameter_of}
use Rattle.sip_uri.proofs.Collecting.{is_shorter, step_on, step_fails, last_read, last_fails}
use Rattle.sip_uri.proofs.parameters.list_parameters.Goals as goal

pub returns-in_err-read_parameter : goal.returns-in_err-read_parameter
returns-in_err-read_parameter c =
    let p = err_from_is_err_and c.from_residual.result c.from_residual.ensures.1 in
    rw (p.1, p.2) (step_fails 59 parameter_of c.loop-part.rest.now c.in-Some.part.now c.in-Some.behind.now c.loop-part.parameters c.in_err-read_parameter.field-0.0 _
    c.in-Some.ensures c.in_err-read_parameter.ensures c.loop-part.invariant)

pub loop-part-smaller : goal.loop-part-smaller
loop-part-smaller c = is_shorter 59 c.loop-part.rest.now c.in-Some.part.now c.in-Some.behind.now c.in-Some.ensures

pub loop-part-preserved : goal.loop-part-preserved
loop-part-preserved c =
    rw c.in_ok-push.ensures.ok (step_on 59 parameter_of c.loop-part.rest.now c.in-Some.part.now c.in-Some.behind.now c.loop-part.parameters c.in_ok-read_parameter.field-0
    _ c.in-Some.ensures c.in_ok-read_parameter.ensures c.loop-part.invariant)

pub returns-in_err-read_parameter-2 : goal.returns-in_err-read_parameter-2
returns-in_err-read_parameter-2 c =
    let p = err_from_is_err_and c.from_residual-in_err-read_parameter-2.result c.from_residual-in_err-read_parameter-2.ensures.1 in
    rw (p.1, p.2) (last_fails 59 parameter_of c.loop-part.rest.now c.loop-part.parameters c.in_err-read_parameter-2.field-0.0 _ c.in_default.ensures
    c.in_err-read_parameter-2.ensures c.loop-part.invariant)

pub returns : goal.returns
returns c =
    last_read 59 parameter_of c.loop-part.rest.now c.loop-part.parameters c.in_ok-read_parameter-2.field-0 _ c.in_default.ensures c.in_ok-read_parameter-2.ensures
    c.loop-part.invariant ∙ ap (λ w. Ok w) (sym c.in_ok-push-2.ensures.ok)
