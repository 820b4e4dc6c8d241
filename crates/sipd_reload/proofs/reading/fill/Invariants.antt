use Rattle.std.specs.Io.KnownBytes.{Keeps}
use Rattle.sipd_reload.proofs.reading.fill.Given as goal

abbrev pub invariant-loop : goal.invariant-loop
invariant-loop g l = Keeps (g.I.Read.remaining l.initial.reader) (g.I.Read.remaining l.reader)
