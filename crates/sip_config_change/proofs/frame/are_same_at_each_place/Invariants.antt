use Rattle.std.proofs.Common.{◌≡◌, drop}
use Rattle.std.specs.Cmp.Lexicographic.{pointwise}
use Rattle.std.specs.Str.{bytes_eq}
use Rattle.sip_config_change.proofs.frame.are_same_at_each_place.Given as goal

-- the rests decide
abbrev pub invariant-loop-index : goal.invariant-loop-index
invariant-loop-index l = pointwise bytes_eq (drop l.index l.left) (drop l.index l.right) ≡ pointwise bytes_eq l.fn.left l.fn.right
