use Rattle.std.proofs.Common.{◌∙◌, ◌++◌, List, Option, sym, ap}
use Rattle.std.specs.Option.{unwrap_or}
use Rattle.sip_event.specs.declared.packet.Packet.{Packet}
use Rattle.sip_proxy.specs.verdict.context_model.Retransmission.{answers_again}
use Rattle.sip_dialog_updates.specs.state.declared.open_request.OpenRequest.{OpenRequest}
use Rattle.sip_engine_request.proofs.Effects.{again_done}
use Rattle.sip_engine_request.proofs.copying.answer_again.Goals as goal

pub returns-clause-does : goal.returns-clause-does
returns-clause-does g c = λ server m r is at.
    again_done server c.args.arrival c.args.proxy.now.state c.pass.new.proxy.state m c.get.result.now r c.copy_packets.new.out c.pass.result is
    (ap (λ (o : Option OpenRequest). unwrap_or o r) (sym c.get.ensures ∙ at))
    (c.in_ok-copy_packets.ensures ∙ ap (λ (ps : List Packet). ps ++ answers_again c.get.result.now c.get.result.now.answer) c.new-packets.ensures) c.pass.ensures.leaves
