-- Bytes that were read and not given yet.
use Rattle.std.proofs.Common.{◌≡◌, ℕ, ◌≤◌, List, [], ◌∷◌, length, get_or, sym, ap, arith}

-- the first of some bytes
pub first_byte : (xs ys : List ℕ) → ys ≡ xs → 1 ≤ length xs → (rest : List ℕ) × (xs ≡ get_or ys 0 0 ∷ rest)
first_byte [] ys is some = absurd (omega (arith, some))
first_byte (x ∷ xs) ys is some = (xs, ap (λ (l : List ℕ). get_or l 0 0 ∷ xs) (sym is))
