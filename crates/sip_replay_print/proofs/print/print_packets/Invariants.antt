use Rattle.std.proofs.Common.{take}
use Rattle.std.specs.List.{flat_map}
use Rattle.std.specs.Io.KnownBytes.{Appends}
use Rattle.sip_replay_print.specs.Print.{packet_text}
use Rattle.sip_replay_print.proofs.print.print_packets.Given as goal

abbrev pub invariant-loop-packet : goal.invariant-loop-packet
invariant-loop-packet g l = Appends (g.W.TellingWriter.contents l.initial.writer) (g.W.TellingWriter.contents l.writer)
    (flat_map (packet_text l.at) (take l.packet-index l.packets))
