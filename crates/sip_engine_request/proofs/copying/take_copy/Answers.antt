use Rattle.std.proofs.Common.{◌∙◌, true, false, sym}
use Rattle.sip_engine_request.proofs.Effects.{copy_done}
use Rattle.sip_engine_request.proofs.copying.take_copy.Goals as goal

pub returns-then-is_ack-clause-does : goal.returns-then-is_ack-clause-does
returns-then-is_ack-clause-does g c =
    copy_done c.args.request.now.arrival c.args.proxy.now.state c.acknowledge.new.proxy.state c.args.configured.now.server.now c.args.request.now.method.now
    c.args.request.now.message.now c.args.place true
    c.acknowledge.result c.requires.request
    (sym c.if-is_ack.true ∙ c.is_ack.ensures) c.acknowledge.ensures.does

pub returns-clause-does : goal.returns-clause-does
returns-clause-does g c =
    copy_done c.args.request.now.arrival c.args.proxy.now.state c.answer_again.new.proxy.state c.args.configured.now.server.now c.args.request.now.method.now
    c.args.request.now.message.now c.args.place false
    c.answer_again.result c.requires.request
    (sym c.if-is_ack.false ∙ c.is_ack.ensures) c.answer_again.ensures.does
