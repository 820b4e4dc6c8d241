use Rattle.std.proofs.Common.{[], ◌∷◌, ap}
use Rattle.sip_forwarding.specs.Arrivals.{arrival_of, arrived}
use Rattle.sip_dialog_updates.specs.state.Dialogs.{after_request}
use Rattle.sip_dialog_updates.specs.state.KeptRequest.{KeptRequest}
use Rattle.sip_forwarding.specs.context_model.Opening.{dialog_branch}
use Rattle.sip_forwarding.specs.Forwarding.{call_within}
use Rattle.sip_forwarding.proofs.Drafts.{packets_are, sent_are, request_is, opens_so, told_behind, renewed_is, none_begins}
use Rattle.sip_forwarding.proofs.forwarding.forward_within.Goals as goal

pub returns-clause-packets : goal.returns-clause-packets
returns-clause-packets c =
    packets_are c.args.server.now c.args.arrival.now c.in_ok-open_request.open_request
    (call_within c.args.server.now (arrived c.args.arrival c.args.request) c.args.request.message c.args.address) c.in_ok-forwarded.forwarded.packets
    c.in_ok-open_request.ensures c.in_ok-forwarded.ensures.packets

pub returns-clause-sent : goal.returns-clause-sent
returns-clause-sent c =
    sent_are c.args.server.now c.args.arrival.now c.in_ok-open_request.open_request
    (call_within c.args.server.now (arrived c.args.arrival c.args.request) c.args.request.message c.args.address) c.in_ok-forwarded.forwarded.packets
    c.in_ok-open_request.ensures c.in_ok-forwarded.ensures.packets

pub returns-clause-request : goal.returns-clause-request
returns-clause-request c =
    request_is c.args.server.now c.args.arrival.now c.in_ok-open_request.open_request
    (call_within c.args.server.now (arrived c.args.arrival c.args.request) c.args.request.message c.args.address) c.in_ok-forwarded.forwarded.request
    c.in_ok-open_request.ensures c.in_ok-forwarded.ensures.request

pub returns-clause-opens : goal.returns-clause-opens
returns-clause-opens c =
    opens_so c.args.server.now (arrival_of c.args.arrival) c.args.request.source c.args.key c.in_ok-open_request.open_request
    (call_within c.args.server.now (arrived c.args.arrival c.args.request) c.args.request.message c.args.address)
    c.in_ok-forwarded.forwarded.request c.in_ok-open_request.ensures c.in_ok-forwarded.ensures.request
    (c.opens.ensures.dialog c.args.server.now (arrived c.args.arrival c.args.request) c.args.request.message c.args.key c.args.address c.requires.key)

pub returns-clause-updates : goal.returns-clause-updates
returns-clause-updates c =
    told_behind c.args.hops.now.addresses c.args.server.now c.args.arrival.now c.in_ok-open_request.open_request
    (call_within c.args.server.now (arrived c.args.arrival c.args.request) c.args.request.message c.args.address) c.in_ok-updates.updates
    c.in_ok-forwarded.forwarded.updates (λ server now dialogs. after_request server now c.args.id c.args.request.message dialogs) c.in_ok-open_request.ensures
    (renewed_is c.args.hops.now.addresses c.args.id c.get.result.now.message c.args.request.message c.in_ok-updates.updates
    (ap (λ (k : KeptRequest). k.message) c.get.ensures) c.in_ok-updates.ensures.told)
    c.in_ok-forwarded.ensures.told

pub returns-clause-none_begins : goal.returns-clause-none_begins
returns-clause-none_begins c =
    none_begins c.args.server.now c.args.arrival.now (arrived c.args.arrival c.args.request) c.args.request.message
    (dialog_branch c.args.server.now c.args.arrival.now c.args.request.message c.args.address ∷ []) c.in_ok-open_request.open_request c.in_ok-updates.updates
    c.in_ok-forwarded.forwarded.updates c.in_ok-open_request.ensures c.in_ok-updates.ensures.none_begins c.in_ok-forwarded.ensures.room
