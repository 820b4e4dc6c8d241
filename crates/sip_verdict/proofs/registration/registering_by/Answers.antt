use Rattle.std.proofs.Common.{◌≡◌, true, false}
use Rattle.std.specs.Prelude.{◌&&◌}
use Rattle.sip_location.specs.Registering.{to_aor}
use Rattle.sip_policy.specs.User.{is_users_address}
use Rattle.model_verdict.specs.Verdict.{is_own_uri}
use Rattle.sip_route.specs.Way.{request_uri_of}
use Rattle.sip_verdict.proofs.Outcomes.{registrable_by}
use Rattle.sip_verdict.proofs.registration.registering_by.Goals as goal

pub returns-then-not-is_registrable-clause-outcome : goal.returns-then-not-is_registrable-clause-outcome
returns-then-not-is_registrable-clause-outcome c =
    let not : (is_own_uri c.args.server.now (request_uri_of c.args.server.now.config.own c.args.request.now.message.now)
    && is_users_address c.args.server.now.config.users c.args.server.now.config.own.domains (to_aor c.args.request.now.core.now)) ≡ false =
    registrable_by c.args.server.now c.args.request.now.message.now (to_aor c.args.request.now.core.now) c.args.request.now.uri.now c.is_registrable.result false
    c.requires.read c.is_registrable.ensures c.if-not-is_registrable.true in
    rw not (c.not_found.ensures.outcome c.args.locations.now.rows c.args.request.now.moment (to_aor c.args.request.now.core.now))

pub returns-clause-outcome : goal.returns-clause-outcome
returns-clause-outcome c =
    let is : (is_own_uri c.args.server.now (request_uri_of c.args.server.now.config.own c.args.request.now.message.now)
    && is_users_address c.args.server.now.config.users c.args.server.now.config.own.domains (to_aor c.args.request.now.core.now)) ≡ true =
    registrable_by c.args.server.now c.args.request.now.message.now (to_aor c.args.request.now.core.now) c.args.request.now.uri.now c.is_registrable.result true
    c.requires.read c.is_registrable.ensures c.if-not-is_registrable.false in
    rw is c.planned_for.ensures.outcome

pub returns-then-not-is_registrable-clause-room : goal.returns-then-not-is_registrable-clause-room
returns-then-not-is_registrable-clause-room c = c.not_found.ensures.room c.args.locations.now.room
