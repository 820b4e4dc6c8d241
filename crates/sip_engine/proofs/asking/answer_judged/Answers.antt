use Rattle.std.proofs.Common.{ap}
use Rattle.sip_verdict.specs.state.KeptRequest.{KeptRequest}
use Rattle.sip_engine.proofs.Taken.{told}
use Rattle.sip_engine.proofs.asking.answer_judged.Goals as goal

pub returns-clause-does : goal.returns-clause-does
returns-clause-does g c =
    told c.args.server.now c.args.request.received.now.arrival c.args.proxy.now.state c.take_judged.new.proxy.state c.args.request.key
    c.args.request.received.now.message.now
    c.in_ok-message.message.message c.args.judged c.take_judged.result
    (ap (λ (k : KeptRequest). k.message) c.in_ok-message.ensures) (rw (← c.into_value.ensures) c.take_judged.ensures.does)
