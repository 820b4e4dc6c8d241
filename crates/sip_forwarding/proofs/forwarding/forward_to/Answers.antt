use Rattle.sip_forwarding.specs.Arrivals.{arrival_of, arrived}
use Rattle.sip_targets.specs.Targets.{target_list}
use Rattle.sip_forwarding.specs.context_model.Opening.{branches_from}
use Rattle.sip_forwarding.specs.Forwarding.{call_to}
use Rattle.std.proofs.Common.{length}
use Rattle.sip_forwarding.proofs.Drafts.{packets_are, sent_are, request_is, opens_so, told_alone, none_begins, no_updates, can_be_numbered}
use Rattle.sip_forwarding.proofs.forwarding.forward_to.Goals as goal

pub returns-clause-packets : goal.returns-clause-packets
returns-clause-packets c =
    packets_are c.args.server.now c.args.arrival.now c.in_ok-open_request.open_request
    (call_to (arrived c.args.arrival c.args.request) c.args.request.message c.args.targets.now) c.in_ok-forwarded.forwarded.packets
    c.in_ok-open_request.ensures c.in_ok-forwarded.ensures.packets

pub returns-clause-sent : goal.returns-clause-sent
returns-clause-sent c =
    sent_are c.args.server.now c.args.arrival.now c.in_ok-open_request.open_request
    (call_to (arrived c.args.arrival c.args.request) c.args.request.message c.args.targets.now) c.in_ok-forwarded.forwarded.packets
    c.in_ok-open_request.ensures c.in_ok-forwarded.ensures.packets

pub returns-clause-request : goal.returns-clause-request
returns-clause-request c =
    request_is c.args.server.now c.args.arrival.now c.in_ok-open_request.open_request
    (call_to (arrived c.args.arrival c.args.request) c.args.request.message c.args.targets.now) c.in_ok-forwarded.forwarded.request
    c.in_ok-open_request.ensures c.in_ok-forwarded.ensures.request

pub returns-clause-opens : goal.returns-clause-opens
returns-clause-opens c =
    opens_so c.args.server.now (arrival_of c.args.arrival) c.args.request.source c.args.key c.in_ok-open_request.open_request
    (call_to (arrived c.args.arrival c.args.request) c.args.request.message c.args.targets.now) c.in_ok-forwarded.forwarded.request
    c.in_ok-open_request.ensures c.in_ok-forwarded.ensures.request
    (c.opens.ensures.targets c.args.server.now (arrived c.args.arrival c.args.request) c.args.request.message c.args.key c.args.targets.now c.requires.key)

pub returns-clause-updates : goal.returns-clause-updates
returns-clause-updates c =
    told_alone c.args.hops.now.addresses c.args.server.now c.args.arrival.now c.in_ok-open_request.open_request
    (call_to (arrived c.args.arrival c.args.request) c.args.request.message c.args.targets.now) c.new.result c.in_ok-forwarded.forwarded.updates
    c.in_ok-open_request.ensures c.new.ensures c.in_ok-forwarded.ensures.told

pub returns-clause-none_begins : goal.returns-clause-none_begins
returns-clause-none_begins c =
    none_begins c.args.server.now c.args.arrival.now (arrived c.args.arrival c.args.request) c.args.request.message
    (branches_from c.args.arrival.now 1 (target_list c.args.targets.now))
    c.in_ok-open_request.open_request c.new.result
    c.in_ok-forwarded.forwarded.updates c.in_ok-open_request.ensures (no_updates c.new.result c.new.ensures) c.in_ok-forwarded.ensures.room

pub fork_to-requires-clause-count : goal.fork_to-requires-clause-count
fork_to-requires-clause-count c = can_be_numbered (length (target_list c.args.targets.now)) c.can_be_numbered.result c.can_be_numbered.ensures
    c.if-not-can_be_numbered.false
