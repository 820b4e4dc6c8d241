use Rattle.std.proofs.Common.{◌≡◌, ◌++◌, length}
use Rattle.std.specs.Prelude.{option_map}
use Rattle.sip_text.specs.Escapes.{unescaped}
use Rattle.sip_text.proofs.escapes.unescape.Given as goal

-- the bytes so far, and those of the rest
abbrev pub invariant-loop-at : goal.invariant-loop-at
invariant-loop-at l = option_map (λ v. l.bytes ++ v) (unescaped l.rest) ≡ unescaped l.fn.text

abbrev pub decreases-loop-at : goal.decreases-loop-at
decreases-loop-at l = length l.rest
