use Rattle.std.proofs.Common.{◌≡◌, ◌++◌, drop, None}
use Rattle.sipd_changes.specs.Summary.{rules_in}
use Rattle.sipd_changes.proofs.summary.rules_in.Given as goal

-- the numbers so far, in front of those of the rest, are all
abbrev pub invariant-loop-change : goal.invariant-loop-change
invariant-loop-change l = l.ids ++ rules_in l.fate l.before (drop l.change-index l.changes) ≡ rules_in l.fate None l.changes
