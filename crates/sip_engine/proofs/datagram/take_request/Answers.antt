use Rattle.sip_engine_request.specs.forwarding.Arrivals.{arrival_of}
use Rattle.sip_engine.proofs.Taken.{known}
use Rattle.sip_engine.proofs.datagram.take_request.Goals as goal

pub returns-in-Some-clause-does : goal.returns-in-Some-clause-does
returns-in-Some-clause-does g c =
    known c.args.judge.now c.args.request.now.arrival c.args.proxy.now.state c.take_known.new.proxy.state c.args.request.now.message.now c.args.request.now.short
    c.args.request.now.method.now c.args.key c.in-Some.place c.take_known.result
    c.in-Some.ensures.place c.in-Some.ensures.request
    (λ r is. c.requests.ensures.open_request c.args.request.now.message.now c.args.request.now.short c.args.request.now.method.now c.args.request.now.via c.args.key
    c.requires.request c.args.judge.now c.args.proxy.now.state (arrival_of c.args.request.now.arrival) r is)
    c.take_known.ensures.does
