use Rattle.std.proofs.Common.{List, ◌++◌, ◌∙◌, ap, false}
use Rattle.std.specs.List.{flat_map}
use Rattle.sip_event.specs.declared.packet.Packet.{Packet}
use Rattle.sip_context_branches.specs.context_model.Opening.{opening, trying}
use Rattle.sip_context_branches.specs.context_model.Sending.{branch_packets}
use Rattle.model_steps.specs.Effect.{upward_packets}
use Rattle.sip_forwarding.proofs.ForkOpened.{request_after, upward_after, all_packets}
use Rattle.sip_forwarding.proofs.opening.take_opening.Goals as goal

pub returns-clause-request : goal.returns-clause-request
returns-clause-request c = request_after c.begin.new.request c.in_ok-sent.sent (opening c.args.server.now c.args.now c.args.open_request.now) c.in_ok-sent.ensures.change

pub returns-clause-upward : goal.returns-clause-upward
returns-clause-upward c = upward_after c.begin.new.request c.in_ok-sent.sent (opening c.args.server.now c.args.now c.args.open_request.now) c.in_ok-upward.upward
    c.in_ok-sent.ensures.change c.in_ok-upward.ensures.upward

pub returns-clause-packets : goal.returns-clause-packets
returns-clause-packets c =
    let server = c.args.server.now in
    let r = c.args.open_request.now in
    all_packets c.args.out.now c.begin.new.out c.change_packets.new.out c.put_packets.new.out (upward_packets r (trying server r))
    (flat_map (branch_packets server false r) r.branches) c.begin.new.request c.in_ok-sent.sent
    (opening server c.args.now r) c.in_ok-sent.ensures.change c.in_ok-sent.ensures.packets c.in_ok-upward.ensures.packets
    (c.in_ok-put_packets.ensures ∙ ap (λ (v : List Packet). c.change_packets.new.out ++ v) c.in_ok-requests.ensures)
