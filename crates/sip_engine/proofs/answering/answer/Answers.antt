use Rattle.std.proofs.Common.{ap}
use Rattle.sip_verdict.specs.state.KeptRequest.{KeptRequest}
use Rattle.sip_verdict.specs.verdict_model.Verdict as Definition
use Rattle.sip_engine.proofs.Taken.{message_is}
use Rattle.sip_engine.proofs.answering.answer.Goals as goal

pub returns-clause-does : goal.returns-clause-does
returns-clause-does g c =
    message_is c.args.server.now c.args.request.received.now.arrival c.args.proxy.now.state c.take_answered.new.proxy.state
    c.args.request.received.now.message.now
    c.in_ok-message.message.message (Definition.Answer c.args.status c.args.extras.now)
    c.take_answered.result (ap (λ (k : KeptRequest). k.message) c.in_ok-message.ensures) c.take_answered.ensures.does
