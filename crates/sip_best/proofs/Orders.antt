-- The order of final answers.
use Rattle.std.proofs.Common.{◌≡◌, ℕ, ◌+◌, ◌*◌, cond, eqb, ltb, Bool, true, false, arith}
use Rattle.std.specs.Prelude.{◌&&◌, ◌||◌, not}
use Rattle.std.proofs.lemmas.Bool.Decides.{nat_tests}
use Rattle.sip_best.specs.declared.final_answer.Final.{Final}
use Rattle.sip_best.specs.Ranks.{class_of, says_how_to_retry, outranks}

-- an answer outranks another where its rank is lower

rank_at : ℕ → Bool → ℕ
rank_at class says = cond (eqb class 6) 0 (cond (eqb class 4 && says) 9 (2 * class + 2))

ranked : (c d : ℕ) (p q : Bool) → cond (eqb c 6) (not (eqb d 6)) (cond (eqb d 6) false (ltb c d || (eqb c 4 && eqb d 4 && p && not q))) ≡ ltb (rank_at c p) (rank_at d q)
unfolding rank_at
ranked c d true true = grind (arith, nat_tests)
ranked c d true false = grind (arith, nat_tests)
ranked c d false true = grind (arith, nat_tests)
ranked c d false false = grind (arith, nat_tests)

pub rank_of : Final → ℕ
rank_of f = rank_at (class_of f) (says_how_to_retry f)

pub outranks_is_lower : (f g : Final) → outranks f g ≡ ltb (rank_of f) (rank_of g)
unfolding rank_of
outranks_is_lower f g = ranked (class_of f) (class_of g) (says_how_to_retry f) (says_how_to_retry g)
