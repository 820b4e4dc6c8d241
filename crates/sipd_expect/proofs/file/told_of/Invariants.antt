use Rattle.std.proofs.Common.{length}
use Rattle.sipd_expect.proofs.Files.{Leads}
use Rattle.sipd_expect.proofs.file.told_of.Given as goal

-- the answers so far, with those of the rest, are those of the whole
abbrev pub invariant-loop-line : goal.invariant-loop-line
invariant-loop-line l = Leads l.config l.fn.file l.rest l.holds

abbrev pub decreases-loop-line : goal.decreases-loop-line
decreases-loop-line l = length l.rest
