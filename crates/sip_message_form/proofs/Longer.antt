-- A sum of lengths that is no number of a machine.
use Rattle.std.proofs.Common.{◌≡◌, ℕ, ◌+◌, ◌-◌, ◌^◌, ◌<◌, ◌≤◌, List, length, take, get_or, min, arith, inl, inr}
use Rattle.std.specs.List.{flat_map}
use Rattle.std.proofs.Math.Nat.{min-le_left, min-le_right, le-min}
use Rattle.std.proofs.lemmas.Bool.{cases_lt}
use Rattle.std.proofs.lemmas.List.Folds.{length-flat_map-take}

pub too_long : {X : Type 0} (f : X → List ℕ) (xs : List X) (i sum more : ℕ) (d : X) → i < length xs → sum ≡ min (length (flat_map f (take i xs))) (2 ^ 64 - 1)
    → more ≡ min (length (f (get_or xs i d))) (2 ^ 64 - 1)
    → (sum + more < 2 ^ 64 → ⊥) → 2 ^ 64 - 1 ≡ min (length (flat_map f xs)) (2 ^ 64 - 1)
too_long f xs i sum more d inside front here over =
    elim (cases_lt (sum + more) (2 ^ 64)) [
      | inl fits ↦ absurd (over fits)
      | inr long ↦
          let total : length (flat_map f (take i xs)) + length (f (get_or xs i d)) ≤ length (flat_map f xs) = length-flat_map-take f xs i d inside in
          let some : 2 ^ 64 - 1 ≤ length (flat_map f xs) = omega (
            arith,
            long,
            front,
            here,
            total,
            min-le_left (length (flat_map f (take i xs))) (2 ^ 64 - 1),
            min-le_left (length (f (get_or xs i d))) (2 ^ 64 - 1),
          ) in
          omega (arith, le-min {k = 2 ^ 64 - 1} {a = length (flat_map f xs)} {b = 2 ^ 64 - 1} some (omega arith), min-le_right (length (flat_map f xs)) (2 ^ 64 - 1))
    ]
