use Rattle.std.proofs.Common.{◌≡◌, length}
use Rattle.sipd_report.specs.Entries.{behind_prefix}
use Rattle.sipd_report.proofs.entry.behind_prefix.Given as goal

-- no mark stands in front of the rest
abbrev pub invariant-loop-behind : goal.invariant-loop-behind
invariant-loop-behind l = behind_prefix l.rest ≡ behind_prefix l.line

abbrev pub decreases-loop-behind : goal.decreases-loop-behind
decreases-loop-behind l = length l.rest
