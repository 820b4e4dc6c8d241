use Rattle.std.proofs.Common.{IfOk, ap, subst}
use Rattle.sip_transaction_table.specs.declared.key.TransactionKey.{TransactionKey}
use Rattle.sip_verdict.specs.state.KeptRequest.{KeptRequest}
use Rattle.sip_verdict.specs.verdict_model.Verdict as Definition
use Rattle.sip_engine_request.specs.Steps.{Takes}
use Rattle.sip_engine.proofs.Taken.{message_is}
use Rattle.sip_engine.proofs.answering.cancel.Goals as goal

pub returns-clause-does : goal.returns-clause-does
returns-clause-does g c =
    message_is c.args.configured.now.server.now c.args.request.received.now.arrival c.args.proxy.now.state c.take_cancel.new.proxy.state
    c.args.request.received.now.message.now
    c.in_ok-message.message.message
    (Definition.Cancel (Definition.found_for_cancel c.args.proxy.now.state c.args.request.key c.args.request.received.now.arrival.from))
    c.take_cancel.result (ap (λ (k : KeptRequest). k.message) c.in_ok-message.ensures)
    (subst (λ (k : TransactionKey). IfOk c.take_cancel.result (λ out. Takes c.args.configured.now.server.now c.args.proxy.now.state c.args.request.received.now.arrival
    c.in_ok-message.message.message (Definition.Cancel (Definition.found_for_cancel c.args.proxy.now.state k c.args.request.received.now.arrival.from)) out
    c.take_cancel.new.proxy.state)) c.in_ok-key.ensures c.take_cancel.ensures.does)
