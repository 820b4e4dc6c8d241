use Rattle.std.proofs.Common.{◌≡◌, drop}
use Rattle.sip_text.specs.Words.{is_same_text}
use Rattle.sip_text.proofs.words.same_no_case.Given as goal

-- the rests decide
abbrev pub invariant-loop-at : goal.invariant-loop-at
invariant-loop-at l = is_same_text (drop l.at l.left) (drop l.at l.right) ≡ is_same_text l.left l.right
