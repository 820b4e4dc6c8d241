use Rattle.std.proofs.Common.{◌≡◌, length}
use Rattle.sip_uri_equality.specs.Equality.{says_same}
use Rattle.sip_uri_equality.proofs.texts.says_same.Given as goal

-- the rests decide
abbrev pub invariant-loop-symbol : goal.invariant-loop-symbol
invariant-loop-symbol l = says_same l.left_rest l.right_rest ≡ says_same l.fn.left l.fn.right

abbrev pub decreases-loop-symbol : goal.decreases-loop-symbol
decreases-loop-symbol l = length l.left_rest
