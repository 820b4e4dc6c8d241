use Rattle.std.proofs.Common.{◌≡◌, drop}
use Rattle.std.specs.Str.{bytes_eq}
use Rattle.sip_text.proofs.words.same_bytes.Given as goal

-- the rests decide
abbrev pub invariant-loop-at : goal.invariant-loop-at
invariant-loop-at l = bytes_eq (drop l.at l.left) (drop l.at l.right) ≡ bytes_eq l.left l.right
