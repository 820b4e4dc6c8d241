use Rattle.std.proofs.Common.{◌≡◌, vec_len}
use Rattle.sipd_old_record.specs.Readers.{WasAsked}
use Rattle.sipd_old_record.proofs.FirstLines.{HasRead}
use Rattle.sipd_old_record.proofs.old_record.first_line.Given as goal

-- the front of the line is read, a byte in each turn
abbrev pub invariant-loop : goal.invariant-loop
invariant-loop g l =
    HasRead (g.I.TellingReader.remaining l.fn.reader) (g.I.TellingReader.remaining l.reader) l.line.items × (vec_len l.line ≡ l.counter)
    × WasAsked 0 (g.I.TellingReader.asked l.fn.reader) (g.I.TellingReader.asked l.reader)
