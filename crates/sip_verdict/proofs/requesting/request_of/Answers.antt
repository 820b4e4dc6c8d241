use Rattle.sip_verdict.proofs.DecidingKeys.{no_key, requests, no_pair, key_found, via_found, key_by}
use Rattle.sip_verdict.proofs.requesting.request_of.Goals as goal

pub returns-in-Some : goal.returns-in-Some
returns-in-Some c =
    λ own short uri version start.
    requests c.args.request.now short c.args.method.now uri version c.in-Some.via c.in-Some.key start
    (via_found c.in_ok-via.field-0 c.in-Some.via c.in-Some.key c.args.request.now c.in-Some.is c.in_ok-via.ensures.via)
    (key_found c.in_ok-via.field-0 c.in-Some.via c.in-Some.key (key_by c.args.method.now c.args.request.now.fields) c.in-Some.is c.in_ok-via.ensures.key)

pub returns-in-None : goal.returns-in-None
returns-in-None c =
    λ own short uri version start.
    no_key own c.args.request.now short c.args.method.now uri version start
    (no_pair c.in_ok-via.field-0 (key_by c.args.method.now c.args.request.now.fields) c.in-None.is c.in_ok-via.ensures.key)
