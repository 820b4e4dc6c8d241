use Rattle.std.specs.Prelude.{◌≡◌}
use Rattle.std.specs.Io.KnownBytes.{Keeps}
use Rattle.sip_replay_script.specs.Devices.{later}
use Rattle.sipd_old_record.proofs.old_record.next_byte.Given as goal

-- what was interrupted read nothing, and the reader was asked once in each turn
abbrev pub invariant-loop : goal.invariant-loop
invariant-loop g l =
    Keeps (g.I.TellingReader.remaining l.fn.reader) (g.I.TellingReader.remaining l.reader)
    × (g.I.TellingReader.asked l.reader ≡ later l.counter (g.I.TellingReader.asked l.fn.reader))
