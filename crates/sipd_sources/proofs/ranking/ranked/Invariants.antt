use Rattle.std.proofs.Common.{◌≡◌, length}
use Rattle.sipd_sources.specs.Ranking.{ranked_among, ranked_of}
use Rattle.sipd_sources.proofs.ranking.ranked.Given as goal

-- what those that are left make of those that were put in their places is what all make
abbrev pub invariant-loop-number : goal.invariant-loop-number
invariant-loop-number l = ranked_among l.ranked.entries l.left.entries ≡ ranked_of l.fn.rows.entries

abbrev pub decreases-loop-number : goal.decreases-loop-number
decreases-loop-number l = length l.left.entries
