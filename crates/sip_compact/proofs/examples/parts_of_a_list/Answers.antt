use Rattle.std.proofs.Common.{ℕ, [], ◌∷◌, refl, arith, inl, inr}
use Rattle.sip_compact.specs.Parts.{IsPart}
use Rattle.sip_compact.proofs.examples.parts_of_a_list.Goals as goal

not_so : (last : ℕ) → IsPart {X = ℕ} (3 ∷ last ∷ []) (1 ∷ 2 ∷ 3 ∷ []) → ⊥
not_so last (inl h) = absurd (omega (arith, h.0))
not_so last (inr (inl h)) = absurd (omega (arith, h.0))
not_so last (inr (inr (inl h))) = h.1
not_so last (inr (inr (inr h))) = h

pub returns-clause-some : goal.returns-clause-some
returns-clause-some c = inl (refl, inr (inl (refl, tt)))

pub returns-clause-order : goal.returns-clause-order
returns-clause-order c = not_so 1

pub returns-clause-twice : goal.returns-clause-twice
returns-clause-twice c = not_so 3
