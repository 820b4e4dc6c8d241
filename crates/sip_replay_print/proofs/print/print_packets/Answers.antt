use Rattle.sip_replay_print.specs.Print.{packet_text}
use Rattle.std.proofs.lemmas.Result.{err_from_is_err_and}
use Rattle.sip_replay_script.proofs.Fronts.{front_part}
use Rattle.sip_replay_script.proofs.Written.{appends_part}
use Rattle.sip_replay_print.proofs.print.print_packets.Goals as goal

pub loop-packet-preserved : goal.loop-packet-preserved
loop-packet-preserved g c =
    appends_part (packet_text c.args.at) c.args.packets.now c.loop-packet.packet-index c.packet-item.result
    _ _ _ c.loop-packet-test.true c.packet-item.is c.loop-packet.invariant c.in_ok-print_packet.ensures.ok

pub returns-in_err-print_packet-clause-front : goal.returns-in_err-print_packet-clause-front
returns-in_err-print_packet-clause-front g c =
    let p = err_from_is_err_and c.from_residual.result c.from_residual.ensures.1 in
    rw p.1 (front_part (packet_text c.args.at) c.args.packets.now c.loop-packet.packet-index c.packet-item.result
    _ _ _ c.loop-packet-test.true c.packet-item.is c.loop-packet.invariant c.in_err-print_packet.ensures.front)
