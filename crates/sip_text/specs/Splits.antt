-- Text cut at the first of a byte.
use Rattle.std.specs.Prelude.{ℕ, ◌==◌, if◌then◌else◌, List, [], ◌∷◌, ◌++◌, Option, Some, None, option_map}

-- bytes before the first of two parts
abbrev pub in_front : List ℕ → Option (List ℕ × List ℕ) → Option (List ℕ × List ℕ)
in_front front parts = option_map (λ x. (front ++ x.0, x.1)) parts

-- what stands before the first of a byte, and what follows it
abbrev pub split_at_byte : ℕ → List ℕ → Option (List ℕ × List ℕ)
split_at_byte mark [] = None
split_at_byte mark (b ∷ bs) = if b == mark then Some ([], bs) else in_front (b ∷ []) (split_at_byte mark bs)
