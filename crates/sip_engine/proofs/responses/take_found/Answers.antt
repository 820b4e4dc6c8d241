use Rattle.std.proofs.Common.{◌∙◌, sym}
use Rattle.sip_engine.proofs.Taken.{responded, untaken}
use Rattle.sip_engine.proofs.responses.take_found.Goals as goal

pub returns-then-is_taken-clause-does : goal.returns-then-is_taken-clause-does
returns-then-is_taken-clause-does g c =
    responded c.args.configured.now.server.now c.args.response.now.arrival c.args.proxy.now.state c.take_response.new.proxy.state c.args.response.now.message.now
    c.args.place c.args.branch c.args.response.now.status c.args.response.now.has_more_vias c.take_response.result
    (λ r b at. sym c.if-is_taken.true ∙ c.is_taken.ensures r b at) c.take_response.ensures.does

pub returns-clause-does : goal.returns-clause-does
returns-clause-does g c =
    untaken c.args.configured.now.server.now c.args.response.now.arrival c.args.proxy.now.state c.take_dropped.new.proxy.state c.args.response.now.message.now
    c.args.place c.args.branch c.args.response.now.status c.args.response.now.has_more_vias c.take_dropped.result
    (λ r b at. sym c.if-is_taken.false ∙ c.is_taken.ensures r b at) (c.take_dropped.ensures.drops c.args.configured.now.server.now c.args.response.now.message.now)
