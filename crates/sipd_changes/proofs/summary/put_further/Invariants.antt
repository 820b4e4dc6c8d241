use Rattle.std.proofs.Common.{◌≡◌, ◌++◌, length}
use Rattle.sipd_changes.specs.Summary.{further_text}
use Rattle.sipd_changes.proofs.summary.put_further.Given as goal

-- what was written, in front of what the rest gives, is all
abbrev pub invariant-loop-id : goal.invariant-loop-id
invariant-loop-id l = l.text ++ further_text l.rest ≡ l.fn.text ++ further_text l.ids

abbrev pub decreases-loop-id : goal.decreases-loop-id
decreases-loop-id l = length l.rest
