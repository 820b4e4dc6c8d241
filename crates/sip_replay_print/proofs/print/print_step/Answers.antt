use Rattle.std.specs.List.{flat_map}
use Rattle.std.proofs.lemmas.Result.{err_from_is_err_and, on_err_weaker}
use Rattle.sip_replay_print.specs.Print.{packet_text, audit_text}
use Rattle.sip_replay_script.proofs.Fronts.{front_first, front_second}
use Rattle.sip_replay_print.proofs.print.print_step.Goals as goal

pub returns-in_err-print_packets-clause-front : goal.returns-in_err-print_packets-clause-front
returns-in_err-print_packets-clause-front g c =
    let p = err_from_is_err_and c.from_residual.result c.from_residual.ensures.1 in
    rw p.1 (front_first (g.W.TellingWriter.contents c.args.writer.now) (g.W.TellingWriter.contents c.print_packets.new.writer)
    (flat_map (packet_text c.args.out.now.at) c.args.out.now.packets) (flat_map audit_text c.args.out.now.records)
    (rw (← c.as_slice.ensures) c.in_err-print_packets.ensures.front))

pub returns-clause-front : goal.returns-clause-front
returns-clause-front g c =
    on_err_weaker c.print_records.result (front_second (g.W.TellingWriter.contents c.args.writer.now) (g.W.TellingWriter.contents c.print_packets.new.writer)
    (g.W.TellingWriter.contents c.print_records.new.writer)
    (flat_map (packet_text c.args.out.now.at) c.args.out.now.packets) (flat_map audit_text c.args.out.now.records)
    (rw (← c.as_slice.ensures) c.in_ok-print_packets.ensures.ok)) (rw (← c.as_slice-2.ensures) c.print_records.ensures.front)
