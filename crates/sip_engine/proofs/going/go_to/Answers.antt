use Rattle.std.proofs.Common.{ap}
use Rattle.sip_verdict.specs.state.KeptRequest.{KeptRequest}
use Rattle.sip_verdict.specs.verdict_model.Verdict as Definition
use Rattle.sip_engine.proofs.Taken.{message_is}
use Rattle.sip_engine.proofs.going.go_to.Goals as goal

pub returns-clause-does : goal.returns-clause-does
returns-clause-does g c =
    message_is c.args.configured.now.server.now c.args.request.received.now.arrival c.args.proxy.now.state c.send_to.new.proxy.state
    c.args.request.received.now.message.now
    c.in_ok-message.message.message
    (Definition.Send c.args.sending.now.judged.now.question c.args.sending.now.rule c.args.sending.now.targets.now)
    c.send_to.result (ap (λ (k : KeptRequest). k.message) c.in_ok-message.ensures) c.send_to.ensures.does
