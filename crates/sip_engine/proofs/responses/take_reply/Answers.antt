use Rattle.std.proofs.Common.{refl}
use Rattle.sip_verdict.specs.context_model.FoundBranch.{found_branch}
use Rattle.sip_engine_request.specs.forwarding.Arrivals.{arrival_of}
use Rattle.sip_engine.proofs.Taken.{replied, unfound}
use Rattle.sip_engine.proofs.responses.take_reply.Goals as goal

pub returns-in-Some-clause-does : goal.returns-in-Some-clause-does
returns-in-Some-clause-does g c =
    replied c.args.configured.now.server.now c.args.response.now.arrival c.args.proxy.now.state c.take_found.new.proxy.state c.args.response.now.message.now
    c.args.response.now.short c.in-Some.place c.in-Some.number c.args.response.now.status c.args.response.now.has_more_vias
    (found_branch c.args.configured.now.server.now c.args.response.now.branch.now c.args.response.now.method.now c.args.proxy.now.state.requests) c.take_found.result
    c.in-Some.ensures
    (λ r b is.
    c.responses.ensures.found c.args.configured.now.server.now.config.own c.args.response.now.message.now c.args.response.now.short c.args.response.now.status
    c.args.response.now.branch.now c.args.response.now.method.now c.args.response.now.has_more_vias c.requires.response c.args.configured.now.server.now
    c.args.proxy.now.state (arrival_of c.args.response.now.arrival) refl r b is)
    c.take_found.ensures.does

pub returns-in-None-clause-does : goal.returns-in-None-clause-does
returns-in-None-clause-does g c =
    unfound c.args.configured.now.server.now c.args.response.now.arrival c.args.proxy.now.state c.take_dropped.new.proxy.state c.args.response.now.message.now
    c.args.response.now.short
    (found_branch c.args.configured.now.server.now c.args.response.now.branch.now c.args.response.now.method.now c.args.proxy.now.state.requests) c.take_dropped.result
    c.in-None.ensures
    (λ is.
    c.responses.ensures.lost c.args.configured.now.server.now.config.own c.args.response.now.message.now c.args.response.now.short c.args.response.now.status
    c.args.response.now.branch.now c.args.response.now.method.now c.args.response.now.has_more_vias c.requires.response c.args.configured.now.server.now
    c.args.proxy.now.state (arrival_of c.args.response.now.arrival) refl is)
    (c.take_dropped.ensures.drops c.args.configured.now.server.now c.args.response.now.message.now)
