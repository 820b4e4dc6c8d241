use Rattle.std.proofs.Common.{◌≡◌, length}
use Rattle.sip_uri.specs.Parts.{is_of, are_escaped}
use Rattle.sip_uri.proofs.escape_classes.are_escaped.Given as goal

-- the rest decides
abbrev pub invariant-loop-after : goal.invariant-loop-after
invariant-loop-after l = are_escaped (is_of l.class) l.rest ≡ are_escaped (is_of l.class) l.fn.text

abbrev pub decreases-loop-after : goal.decreases-loop-after
decreases-loop-after l = length l.rest
