use Rattle.sipd_days.specs.PrintedSources.{PrintsEach}
use Rattle.sipd_days.proofs.sources.tell_records.Given as goal

-- the records so far are printed
abbrev pub invariant-loop-path : goal.invariant-loop-path
invariant-loop-path g l =
    PrintsEach l.counting.form l.counting.filter l.path-index (g.W.Write.contents l.initial.output) (g.W.Write.contents l.output)
