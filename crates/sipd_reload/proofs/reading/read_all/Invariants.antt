use Rattle.std.proofs.Common.{◌≤◌, ◌-◌, length}
use Rattle.std.specs.Io.KnownBytes.{Consumes}
use Rattle.sipd_reload.specs.File.{most_bytes}
use Rattle.sipd_reload.proofs.reading.read_all.Given as goal

abbrev pub invariant-parts : goal.invariant-parts
invariant-parts g l =
    Consumes (g.I.Read.remaining l.initial.reader) (g.I.Read.remaining l.reader) l.buffer × (length l.buffer ≤ most_bytes)

abbrev pub decreases-parts : goal.decreases-parts
decreases-parts g l = most_bytes - length l.buffer
