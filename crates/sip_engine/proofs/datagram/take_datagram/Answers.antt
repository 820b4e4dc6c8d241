use Rattle.std.proofs.Common.{◌∙◌, sym}
use Rattle.sip_engine_request.specs.forwarding.Arrivals.{arrival_of}
use Rattle.sip_engine.proofs.Taken.{silent}
use Rattle.sip_engine.proofs.datagram.take_datagram.Goals as goal

pub returns-in-None-clause-does : goal.returns-in-None-clause-does
returns-in-None-clause-does g c =
    silent c.args.judge.now c.args.arrival c.args.proxy.now.state c.take_dropped.new.proxy.state c.args.bytes.now c.take_dropped.result
    (c.datagrams.ensures.none c.args.judge.now c.args.proxy.now.state (arrival_of c.args.arrival) c.args.bytes.now (sym c.in_ok-said.ensures ∙ c.in-None.is))
    (c.take_dropped.ensures.says_none c.args.judge.now)
