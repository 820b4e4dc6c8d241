-- What a clock over memory gives, reading by reading.
use Rattle.std.proofs.Common.{◌≡◌, ℕ, zero, suc, ◌+◌, ◌<◌, ◌≤◌, List, [], ◌∷◌, ◌++◌, length, refl, ap, arith, slice_index_or}
use Rattle.sip_transport.specs.MemoryClock.{reading_at, readings_of}

next : (other : ℕ) (list : List ℕ) (n : ℕ) → readings_of other list (suc n) ≡ readings_of other list n ++ reading_at other list n ∷ []
next other [] zero = refl
next other (reading ∷ list) zero = refl
next other [] (suc n) = ap (λ rest. other ∷ rest) (next other [] n)
next other (reading ∷ list) (suc n) = ap (λ rest. reading ∷ rest) (next reading list n)

pub readings_next : (other : ℕ) (list : List ℕ) (n : ℕ) → readings_of other list (n + 1) ≡ readings_of other list n ++ reading_at other list n ∷ []
readings_next other list n = let e : n + 1 ≡ suc n = omega arith in rw e (next other list n)

pub length_readings : (other : ℕ) (list : List ℕ) (n : ℕ) → length (readings_of other list n) ≡ n
length_readings other list zero = refl
length_readings other [] (suc n) = ap suc (length_readings other [] n)
length_readings other (reading ∷ list) (suc n) = ap suc (length_readings reading list n)

pub reading_there : (other : ℕ) (list : List ℕ) (n d : ℕ) → n < length list → slice_index_or list n d ≡ reading_at other list n
reading_there other [] n d h = absurd (omega (arith, h))
reading_there other (reading ∷ list) zero d h = refl
reading_there other (reading ∷ list) (suc n) d h = reading_there reading list n d (omega (arith, h))

pub reading_none : (other : ℕ) (list : List ℕ) (n : ℕ) → length list ≡ 0 → other ≡ reading_at other list n
reading_none other [] n h = refl
reading_none other (reading ∷ list) n h = absurd (omega (arith, h))

past : (other : ℕ) (list : List ℕ) (n : ℕ) (last d : ℕ) → length list ≤ n → length list ≡ last + 1 → slice_index_or list last d ≡ reading_at other list n
past other [] n last d h e = absurd (omega (arith, e))
past other (reading ∷ list) zero last d h e = absurd (omega (arith, h))
past other (reading ∷ []) (suc n) zero d h e = refl
past other (reading ∷ second ∷ list) (suc n) zero d h e = absurd (omega (arith, e))
past other (reading ∷ list) (suc n) (suc last) d h e = past reading list n last d (omega (arith, h)) (omega (arith, e))

pub reading_last : (other : ℕ) (list : List ℕ) (n last d : ℕ) → length list ≤ n → last + 1 ≡ length list → slice_index_or list last d ≡ reading_at other list n
reading_last other list n last d h e = past other list n last d h (omega (arith, e))
