use Rattle.std.proofs.Common.{sym, ap, ◌∙◌}
use Rattle.std.specs.Prelude.{Ok}
use Rattle.std.proofs.lemmas.Result.{err_from_is_err_and}
use Rattle.sip_uri.specs.Reading.{header_of}
use Rattle.sip_uri.proofs.Collecting.{is_shorter, step_on, step_fails, last_read, last_fails}
use Rattle.sip_uri.proofs.headers.list_headers.Goals as goal

pub returns-in_err-read_header : goal.returns-in_err-read_header
returns-in_err-read_header c =
    let p = err_from_is_err_and c.from_residual.result c.from_residual.ensures.1 in
    rw (p.1, p.2) (step_fails 38 header_of c.loop-part.rest.now c.in-Some.part.now c.in-Some.behind.now c.loop-part.headers c.in_err-read_header.field-0.0 _
    c.in-Some.ensures c.in_err-read_header.ensures c.loop-part.invariant)

pub loop-part-smaller : goal.loop-part-smaller
loop-part-smaller c = is_shorter 38 c.loop-part.rest.now c.in-Some.part.now c.in-Some.behind.now c.in-Some.ensures

pub loop-part-preserved : goal.loop-part-preserved
loop-part-preserved c =
    rw c.in_ok-push.ensures.ok (step_on 38 header_of c.loop-part.rest.now c.in-Some.part.now c.in-Some.behind.now c.loop-part.headers c.in_ok-read_header.field-0 _
    c.in-Some.ensures c.in_ok-read_header.ensures c.loop-part.invariant)

pub returns-in_err-read_header-2 : goal.returns-in_err-read_header-2
returns-in_err-read_header-2 c =
    let p = err_from_is_err_and c.from_residual-in_err-read_header-2.result c.from_residual-in_err-read_header-2.ensures.1 in
    rw (p.1, p.2) (last_fails 38 header_of c.loop-part.rest.now c.loop-part.headers c.in_err-read_header-2.field-0.0 _ c.in_default.ensures c.in_err-read_header-2.ensures
    c.loop-part.invariant)

pub returns : goal.returns
returns c =
    last_read 38 header_of c.loop-part.rest.now c.loop-part.headers c.in_ok-read_header-2.field-0 _ c.in_default.ensures c.in_ok-read_header-2.ensures
    c.loop-part.invariant ∙ ap (λ w. Ok w) (sym c.in_ok-push-2.ensures.ok)
