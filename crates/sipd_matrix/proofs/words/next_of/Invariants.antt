use Rattle.std.proofs.Common.{◌≡◌, drop, find, nat_lt}
use Rattle.sipd_matrix.proofs.words.next_of.Given as goal

-- what is found in the rest is what is found in all
abbrev pub invariant-loop-next : goal.invariant-loop-next
invariant-loop-next l = find (λ next. nat_lt l.piece next) (drop l.next-index l.pieces) ≡ find (λ next. nat_lt l.piece next) l.pieces
