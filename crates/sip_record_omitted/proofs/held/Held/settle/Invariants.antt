use Rattle.std.proofs.Common.{◌-◌, length}
use Rattle.std.specs.Prelude.{option_map}
use Rattle.std.specs.Io.KnownBytes.{Keeps}
use Rattle.sip_record_omitted.specs.Holding.{ahead}
use Rattle.sip_record_omitted.proofs.held.Held.settle.Given as goal

-- nothing of what is to come was lost
abbrev pub invariant-looks : goal.invariant-looks
invariant-looks g l =
    Keeps (option_map (ahead l.initial.self) (g.I.TellingReader.remaining l.initial.inner)) (option_map (ahead l.self) (g.I.TellingReader.remaining l.inner))

abbrev pub decreases-looks : goal.decreases-looks
decreases-looks g l = 28 - length l.self.unread
