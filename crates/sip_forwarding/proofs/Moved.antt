-- Packets that are moved one by one.
use Rattle.std.proofs.Common.{◌≡◌, ℕ, zero, suc, ◌+◌, ◌<◌, List, [], ◌∷◌, ◌++◌, length, map, take, drop, refl, sym, ap, ◌∙◌, arith, append_assoc, slice_index_or}
use Rattle.sip_event.specs.declared.packet.Packet.{Packet}
use Rattle.sip_forwarding.specs.Moved.{emptied}

-- the place that is next holds what it held
next_is : (xs : List Packet) (i : ℕ) (d : Packet) → i < length xs → slice_index_or (map emptied (take i xs) ++ drop i xs) i d ≡ slice_index_or xs i d
next_is [] i d lt = absurd (omega arith)
next_is (x ∷ xs) zero d lt = refl
next_is (x ∷ xs) (suc i) d lt = next_is xs i d (omega arith)

-- one more of the first
taken_is : (xs : List Packet) (i : ℕ) (d : Packet) → i < length xs → take i xs ++ slice_index_or xs i d ∷ [] ≡ take (suc i) xs
taken_is [] i d lt = absurd (omega arith)
taken_is (x ∷ xs) zero d lt = refl
taken_is (x ∷ xs) (suc i) d lt = ap (λ (v : List Packet). x ∷ v) (taken_is xs i d (omega arith))

-- one more packet is moved
pub one_moved : (xs ys old out new : List Packet) (i : ℕ) (d : Packet) → ys ≡ map emptied (take i xs) ++ drop i xs → i < length xs
    → out ≡ old ++ take i xs → new ≡ out ++ slice_index_or ys i d ∷ [] → new ≡ old ++ take (i + 1) xs
one_moved xs ys old out new i d is lt so_far more =
    let n : i + 1 ≡ suc i = omega arith in
    let held : slice_index_or ys i d ≡ slice_index_or xs i d = ap (λ (v : List Packet). slice_index_or v i d) is ∙ next_is xs i d lt in
    more ∙ ap (λ (p : Packet). out ++ p ∷ []) held ∙ ap (λ (v : List Packet). v ++ slice_index_or xs i d ∷ []) so_far
    ∙ append_assoc old (take i xs) (slice_index_or xs i d ∷ [])
    ∙ ap (λ (v : List Packet). old ++ v) (taken_is xs i d lt ∙ sym (ap (λ (k : ℕ). take k xs) n))
