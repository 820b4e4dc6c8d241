-- The row that a count is written to.
use Rattle.std.proofs.Common.{◌≡◌, ℕ, zero, suc, ◌+◌, ◌<◌, ◌≤◌, Bool, true, false, cond, List, [], ◌∷◌, length, Some, None, refl, sym, ap, arith, slice_set}
use Rattle.std.specs.Prelude.{position, slice_get, not, nat_lt}
use Rattle.std.specs.List.{position_or_len}
use Rattle.std.proofs.lemmas.Option.{cond_some}
use Rattle.std.proofs.lemmas.Bool.{ltb-true}
use Rattle.std.proofs.lemmas.Bool.Decides.{nat_tests}
use Rattle.sip_digest.specs.declared.nonces.Nonce.{Nonce}
use Rattle.sip_digest.specs.Nonces.{is_this, counted}

abbrev pub with_count : Nonce → ℕ → Nonce
with_count row count = record { word = row.word; since = row.since; count = count }

-- what is claimed of the nonces
abbrev Writes : ℕ → ℕ → ℕ → List Nonce → Type 0
Writes word now count ns = (i : ℕ) (row : Nonce) → i ≡ position_or_len (is_this word now) ns → slice_get ns i ≡ Some row
    → slice_set ns i (with_count row count) ≡ counted word count ns now

counted_here : (word now count : ℕ) (n : Nonce) (ns : List Nonce) (others : Writes word now count ns) (b : Bool) (i : ℕ) (row : Nonce)
    → i ≡ cond (not b) (1 + position_or_len (is_this word now) ns) 0 → slice_get (n ∷ ns) i ≡ Some row
    → slice_set (n ∷ ns) i (with_count row count) ≡ cond b (with_count n count ∷ ns) (n ∷ counted word count ns now)
counted_here word now count n ns others true zero row e got =
    let same : n ≡ row = cc in
    ap (λ (r : Nonce). with_count r count ∷ ns) (sym same)
counted_here word now count n ns others true (suc i) row e got = absurd (omega arith)
counted_here word now count n ns others false zero row e got = absurd (omega arith)
counted_here word now count n ns others false (suc i) row e got =
    let later : i ≡ position_or_len (is_this word now) ns = omega arith in
    ap (λ (r : List Nonce). n ∷ r) (others i row later got)

counted_from : (word now count : ℕ) (ns : List Nonce) → Writes word now count ns
counted_from word now count [] i row e got = absurd cc
counted_from word now count (n ∷ ns) i row e got = counted_here word now count n ns (counted_from word now count ns) (is_this word now n) i row e got

pub counted_at : (word now count : ℕ) (ns : List Nonce) (i : ℕ) (row : Nonce) → position (is_this word now) ns ≡ Some i → slice_get ns i ≡ Some row
    → slice_set ns i (with_count row count) ≡ counted word count ns now
counted_at word now count ns i row found got =
    counted_from word now count ns i row (sym (cond_some (nat_lt (position_or_len (is_this word now) ns) (length ns)) _ _ found).1) got

uncounted_here : (word now count : ℕ) (n : Nonce) (ns : List Nonce) → (length ns ≤ position_or_len (is_this word now) ns → counted word count ns now ≡ ns) → (b : Bool)
    → suc (length ns) ≤ cond (not b) (1 + position_or_len (is_this word now) ns) 0
    → cond b (with_count n count ∷ ns) (n ∷ counted word count ns now) ≡ n ∷ ns
uncounted_here word now count n ns others true le = absurd (omega arith)
uncounted_here word now count n ns others false le = ap (λ (r : List Nonce). n ∷ r) (others (omega arith))

uncounted_from : (word now count : ℕ) (ns : List Nonce) → length ns ≤ position_or_len (is_this word now) ns → counted word count ns now ≡ ns
uncounted_from word now count [] le = refl
uncounted_from word now count (n ∷ ns) le = uncounted_here word now count n ns (uncounted_from word now count ns) (is_this word now n) le

none_found : (i n : ℕ) → cond (nat_lt i n) (Some i) None ≡ None → n ≤ i
none_found i n e = grind (arith, nat_tests)

pub uncounted : (word now count : ℕ) (ns : List Nonce) → position (is_this word now) ns ≡ None → ns ≡ counted word count ns now
uncounted word now count ns e = sym (uncounted_from word now count ns (none_found _ _ e))

pub is_there : (word now : ℕ) (ns : List Nonce) (i : ℕ) → position (is_this word now) ns ≡ Some i → slice_get ns i ≡ None → ⊥
is_there word now ns i found none =
    let parts = cond_some (nat_lt (position_or_len (is_this word now) ns) (length ns)) _ _ found in
    missing ns i (omega (arith, ltb-true _ _ parts.0, parts.1)) none
  where
    missing : (ns : List Nonce) (i : ℕ) → i < length ns → slice_get ns i ≡ None → ⊥
    missing [] i lt e = absurd (omega arith)
    missing (n ∷ ns) zero lt e = absurd cc
    missing (n ∷ ns) (suc i) lt e = missing ns i (omega arith) e
