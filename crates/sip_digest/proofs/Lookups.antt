-- What a look-up along the links finds.
use Rattle.std.proofs.Common.{◌≡◌, ◌≢◌, ℕ, zero, suc, ◌+◌, ◌-◌, ◌<◌, ◌≤◌, Bool, true, false, cond, ◌==◌, List, [], ◌∷◌, ◌++◌, length, take, get_or, Option, Some, None}
use Rattle.std.proofs.Common.{refl, sym, ap, subst, ◌∙◌, arith, inl, inr, eqb-true}
use Rattle.std.specs.Prelude.{position, find, nat_lt, not, ◌||◌, slice_get, is_some}
use Rattle.std.specs.List.{position_or_len, list_any}
use Rattle.std.proofs.lemmas.Bool.{cases_lt, and_parts, false_from_ne_true, lt-ltb}
use Rattle.std.proofs.lemmas.Bool.Decides.{nat_tests}
use Rattle.std.proofs.lemmas.List.{get_or_read, get_or-map, length-map, length_push, take_more, take_all, length-take-le}
use Rattle.std.proofs.lemmas.List.Folds.{position_or_len_push, find_at}
use Rattle.std.specs.Option.{option_map}
use Rattle.std.proofs.lemmas.Option.{cond_some, slice_get-map, slice_get_past, slice_get-get_or, slice_get_read, get_or_from_slice_get}
use Rattle.sip_digest.specs.declared.nonces.Nonce.{Nonce}
use Rattle.sip_digest.specs.declared.nonces.NonceRow.{NonceRow}
use Rattle.sip_digest.specs.Nonces.{is_live, is_this}
use Rattle.sip_digest.specs.Rows.{bucket_of, nonces_in, buckets_of, gaps_in, passed_since, IsNewest, AreLinked, AreKept}
use Rattle.sip_digest.proofs.Rows.{nonce_at}

-- the first of the places below a number at which a test passes, or else what was seen behind
abbrev pub first_below : (ℕ → Bool) → ℕ → Option ℕ → Option ℕ
first_below p zero seen = seen
first_below p (suc i) seen = first_below p i (cond (p i) (Some i) seen)

first_passed : (p : ℕ → Bool) (i k : ℕ) (seen : Option ℕ) → k ≤ i → ((j : ℕ) → k ≤ j → j < i → p j ≡ false) → first_below p i seen ≡ first_below p k seen
first_passed p zero zero seen le none = refl
first_passed p zero (suc k) seen le none = absurd (omega arith)
first_passed p (suc i) k seen le none = elim (cases_lt i k) [
  | inl top ↦ (let e : suc i ≡ k = omega arith in ap (λ (n : ℕ). first_below p n seen) e)
  | inr below ↦ (let no : p i ≡ false = none i below (omega arith) in
      ap (λ (t : Bool). first_below p i (cond t (Some i) seen)) no ∙ first_passed p i k seen below (λ j ge lt. none j ge (omega arith)))
]

abbrev place_or : {X : Type 0} → (X → Bool) → List X → Option ℕ → Option ℕ
place_or test xs seen = cond (nat_lt (position_or_len test xs) (length xs)) (Some (position_or_len test xs)) seen

position_within : {X : Type 0} (test : X → Bool) (xs : List X) → position_or_len test xs ≤ length xs
position_within test [] = omega arith
position_within test (x ∷ xs) = by_test (test x) (position_within test xs) where
  by_test : (t : Bool) → position_or_len test xs ≤ length xs → cond (not t) (1 + position_or_len test xs) 0 ≤ suc (length xs)
  by_test true le = omega arith
  by_test false le = omega arith

place_push : (a n : ℕ) (t : Bool) (seen : Option ℕ) → a ≤ n → cond (nat_lt (cond (a == n) (n + cond t 0 1) a) (n + 1)) (Some (cond (a == n) (n + cond t 0 1) a)) seen
    ≡ cond (nat_lt a n) (Some a) (cond t (Some n) seen)
place_push a n true seen le = grind (arith, nat_tests)
place_push a n false seen le = grind (arith, nat_tests)

place_or_push : {X : Type 0} (test : X → Bool) (xs : List X) (x : X) (seen : Option ℕ)
    → place_or test (xs ++ x ∷ []) seen ≡ place_or test xs (cond (test x) (Some (length xs)) seen)
place_or_push test xs x seen =
    ap (λ (a : ℕ). cond (nat_lt a (length (xs ++ x ∷ []))) (Some a) seen) (position_or_len_push test xs x)
    ∙ ap (λ (n : ℕ). cond (nat_lt (cond (position_or_len test xs == length xs) (length xs + cond (test x) 0 1) (position_or_len test xs)) n)
    (Some (cond (position_or_len test xs == length xs) (length xs + cond (test x) 0 1) (position_or_len test xs))) seen) (length_push xs x)
    ∙ place_push (position_or_len test xs) (length xs) (test x) seen (position_within test xs)

first_of : {X : Type 0} (test : X → Bool) (xs : List X) (d : X) (n : ℕ) (seen : Option ℕ) → n ≤ length xs
    → first_below (λ j. test (get_or xs j d)) n seen ≡ place_or test (take n xs) seen
first_of test xs d zero seen le = refl
first_of {X = X} test xs d (suc n) seen le =
    let more : take (n + 1) xs ≡ take n xs ++ get_or xs n d ∷ [] = take_more xs n d (omega arith) in
    let same : n + 1 ≡ suc n = omega arith in
    let front : take n xs ++ get_or xs n d ∷ [] ≡ take (suc n) xs = sym more ∙ ap (λ (k : ℕ). take k xs) same in
    first_of test xs d n (cond (test (get_or xs n d)) (Some n) seen) (omega arith)
    ∙ ap (λ (k : ℕ). place_or test (take n xs) (cond (test (get_or xs n d)) (Some k) seen)) (sym (length-take-le n xs (omega arith)))
    ∙ sym (place_or_push test (take n xs) (get_or xs n d) seen)
    ∙ ap (λ (ys : List X). place_or test ys seen) front

first_is_position : {X : Type 0} (test : X → Bool) (xs : List X) (d : X) → first_below (λ j. test (get_or xs j d)) (length xs) None ≡ position test xs
first_is_position {X = X} test xs d =
    first_of test xs d (length xs) None (omega arith) ∙ ap (λ (ys : List X). place_or test ys None) (take_all (length xs) xs (omega arith))

one_more : (a n : ℕ) → nat_lt a n ≡ nat_lt (1 + a) (suc n)
one_more a n = grind (arith, nat_tests)

any_is : {X : Type 0} (test : X → Bool) (xs : List X) → list_any test xs ≡ nat_lt (position_or_len test xs) (length xs)
any_is test [] = refl
any_is test (x ∷ xs) = by_test (test x) (any_is test xs) where
  by_test : (t : Bool) → list_any test xs ≡ nat_lt (position_or_len test xs) (length xs)
      → (t || list_any test xs) ≡ nat_lt (cond (not t) (1 + position_or_len test xs) 0) (suc (length xs))
  by_test true e = sym (lt-ltb 0 (suc (length xs)) (omega arith))
  by_test false e = e ∙ one_more (position_or_len test xs) (length xs)

pub any_from_position : {X : Type 0} (test : X → Bool) (xs : List X) → is_some (position test xs) ≡ list_any test xs
any_from_position test xs = some_if (nat_lt (position_or_len test xs) (length xs)) ∙ sym (any_is test xs) where
  some_if : (t : Bool) → is_some (cond t (Some (position_or_len test xs)) None) ≡ t
  some_if true = refl
  some_if false = refl

-- no nonce, which is asked for where there is none
abbrev pub blank : Nonce
blank = record { word = 0; since = 0; count = 0 }

-- a look-up came to the first `front` nonces, having seen the word's nonce in this place: the last of them is of the
-- word's bucket, if any is, and what is left to find is what the whole has
pub record Seeks (nonces : List Nonce) (word now front : ℕ) (place : Option ℕ) : Type 0 where
  pub within : front ≤ length nonces
  pub stands : (j : ℕ) → j < front → get_or (buckets_of nonces) j 0 ≡ bucket_of word → get_or (buckets_of nonces) (front - 1) 0 ≡ bucket_of word
  pub left : first_below (λ j. is_this word now (get_or nonces j blank)) front place ≡ position (is_this word now) nonces

-- a nonce of another bucket isn't the word's
not_this : (nonces : List Nonce) (word now j : ℕ) → j < length nonces → get_or (buckets_of nonces) j 0 ≢ bucket_of word → is_this word now (get_or nonces j blank) ≡ false
not_this nonces word now j lt other =
    false_from_ne_true (is_this word now (get_or nonces j blank)) (λ is.
    let same : (get_or nonces j blank).word ≡ word = eqb-true _ word (and_parts ((get_or nonces j blank).word == word) (is_live now (get_or nonces j blank)) is).0 in
    other (get_or-map (λ (n : Nonce). bucket_of n.word) nonces j blank 0 lt ∙ ap bucket_of same))

pub seek_first : (nonces : List Nonce) (word now front : ℕ) → IsNewest (bucket_of word) (buckets_of nonces) (length nonces) front → Seeks nonces word now front None
seek_first nonces word now front n = record {
  within = n.within;
  stands = n.stands;
  left =
      sym (first_passed (λ j. is_this word now (get_or nonces j blank)) (length nonces) front None n.within
      (λ j ge lt. not_this nonces word now j lt (n.none_behind j ge lt)))
      ∙ first_is_position (is_this word now) nonces blank;
}

seek_on : (nonces : List Nonce) (gaps : List ℕ) (word now front at : ℕ) (place : Option ℕ) → AreLinked (buckets_of nonces) gaps → suc at ≡ front
    → get_or (buckets_of nonces) at 0 ≡ bucket_of word
    → Seeks nonces word now front place → Seeks nonces word now (at - get_or gaps at 0) (cond (is_this word now (get_or nonces at blank)) (Some at) place)
seek_on nonces gaps word now front at place linked is here s =
    let n : IsNewest (bucket_of word) (buckets_of nonces) at (at - get_or gaps at 0) =
    subst (λ (b : ℕ). IsNewest b (buckets_of nonces) at (at - get_or gaps at 0)) here
    (linked at (omega (arith, s.within, length-map nonces (λ (m : Nonce). bucket_of m.word)))) in
    let all : first_below (λ j. is_this word now (get_or nonces j blank)) (suc at) place ≡ position (is_this word now) nonces =
    ap (λ (k : ℕ). first_below (λ j. is_this word now (get_or nonces j blank)) k place) is ∙ s.left in
    record {
      within = omega (arith, s.within);
      stands = n.stands;
      left =
          sym (first_passed (λ j. is_this word now (get_or nonces j blank)) at (at - get_or gaps at 0) (cond (is_this word now (get_or nonces at blank)) (Some at) place)
          n.within
          (λ j ge lt. not_this nonces word now j (omega (arith, s.within)) (n.none_behind j ge lt)))
          ∙ all;
    }

-- where the row that it came to is of another bucket
seek_stopped : (nonces : List Nonce) (word now front : ℕ) (place : Option ℕ) → get_or (buckets_of nonces) (front - 1) 0 ≢ bucket_of word
    → Seeks nonces word now front place → place ≡ position (is_this word now) nonces
seek_stopped nonces word now front place other s =
    sym (first_passed (λ j. is_this word now (get_or nonces j blank)) front 0 place (omega arith)
    (λ j ge lt. not_this nonces word now j (omega (arith, s.within)) (λ e. other (s.stands j lt e))))
    ∙ s.left

-- the look-up begins at the mark of the word's bucket
pub newest_at : (rows : List NonceRow) (turn : ℕ) (marks : List ℕ) (word bucket mark front : ℕ) → AreKept (buckets_of (nonces_in rows)) (gaps_in rows) turn marks
    → bucket ≡ bucket_of word → mark ≡ get_or marks bucket mark → front ≡ length rows - passed_since mark turn
    → IsNewest (bucket_of word) (buckets_of (nonces_in rows)) (length (nonces_in rows)) front
newest_at rows turn marks word bucket mark front k b read is =
    let mark_is : mark ≡ get_or marks (bucket_of word) 0 =
    get_or_read marks bucket mark (omega (arith, k.sized)) read 0 ∙ ap (λ (m : ℕ). get_or marks m 0) b in
    let many : length (buckets_of (nonces_in rows)) ≡ length (nonces_in rows) = length-map (nonces_in rows) (λ (n : Nonce). bucket_of n.word) in
    let as_many : length (nonces_in rows) ≡ length rows = length-map rows (λ (r : NonceRow). r.nonce) in
    let from : length (buckets_of (nonces_in rows)) - passed_since (get_or marks (bucket_of word) 0) turn ≡ front =
    ap (λ (n : ℕ). n - passed_since (get_or marks (bucket_of word) 0) turn) (many ∙ as_many)
    ∙ ap (λ (m : ℕ). length rows - passed_since m turn) (sym mark_is) ∙ sym is in
    subst (λ (n : ℕ). IsNewest (bucket_of word) (buckets_of (nonces_in rows)) n front) many
    (subst (λ (f : ℕ). IsNewest (bucket_of word) (buckets_of (nonces_in rows)) (length (buckets_of (nonces_in rows))) f) from (k.marked (bucket_of word) (omega arith)))

-- what stands in the place
pub found_none : {X : Type 0} (test : X → Bool) (xs : List X) → position test xs ≡ None → find test xs ≡ None
found_none test xs e = find_at test xs ∙ slice_get_past xs (position_or_len test xs) (none_within (position_or_len test xs) (length xs) e) where
  none_within : (i n : ℕ) → cond (nat_lt i n) (Some i) None ≡ None → n ≤ i
  none_within i n e = grind (arith, nat_tests)

found_some : {X : Type 0} (test : X → Bool) (xs : List X) (i : ℕ) → position test xs ≡ Some i → find test xs ≡ slice_get xs i
found_some test xs i e = find_at test xs ∙ ap (slice_get xs) (cond_some (nat_lt (position_or_len test xs) (length xs)) _ _ e).1

pub found_nonce : (rows : List NonceRow) (nonces : List Nonce) (test : Nonce → Bool) (i : ℕ) (row : NonceRow) → nonces_in rows ≡ nonces → position test nonces ≡ Some i
    → i < length rows → row ≡ get_or rows i row → find test nonces ≡ Some row.nonce
found_nonce rows nonces test i row is found within read =
    found_some test nonces i found ∙ ap (λ (ns : List Nonce). slice_get ns i) (sym is) ∙ nonce_at rows i row (slice_get_read rows (length rows) i row refl within read)

-- the bucket of a row that was read
bucket_at : (rows : List NonceRow) (i : ℕ) (row : NonceRow) → slice_get rows i ≡ Some row → get_or (buckets_of (nonces_in rows)) i 0 ≡ bucket_of row.nonce.word
bucket_at rows i row got =
    get_or_from_slice_get (buckets_of (nonces_in rows)) i (bucket_of row.nonce.word) 0
    (slice_get-map (λ (n : Nonce). bucket_of n.word) (nonces_in rows) i ∙ ap (option_map (λ (n : Nonce). bucket_of n.word)) (nonce_at rows i row got))

-- a row of the bucket is passed
pub seek_past : (rows : List NonceRow) (word now front at : ℕ) (place : Option ℕ) (row : NonceRow) → AreLinked (buckets_of (nonces_in rows)) (gaps_in rows)
    → at ≡ front - 1
    → 0 < front
    → slice_get rows at ≡ Some row → bucket_of row.nonce.word ≡ bucket_of word → Seeks (nonces_in rows) word now front place
    → Seeks (nonces_in rows) word now (at - row.gap) (cond (is_this word now row.nonce) (Some at) place)
seek_past rows word now front at place row linked is some got same s =
    let nonce_is : get_or (nonces_in rows) at blank ≡ row.nonce = get_or_from_slice_get (nonces_in rows) at row.nonce blank (nonce_at rows at row got) in
    let gap_is : get_or (gaps_in rows) at 0 ≡ row.gap =
    get_or_from_slice_get (gaps_in rows) at row.gap 0 (slice_get-map (λ (r : NonceRow). r.gap) rows at ∙ ap (option_map (λ (r : NonceRow). r.gap)) got) in
    subst (λ (n : Nonce). Seeks (nonces_in rows) word now (at - row.gap) (cond (is_this word now n) (Some at) place)) nonce_is
    (subst (λ (g : ℕ). Seeks (nonces_in rows) word now (at - g) (cond (is_this word now (get_or (nonces_in rows) at blank)) (Some at) place)) gap_is
    (seek_on (nonces_in rows) (gaps_in rows) word now front at place linked (omega arith) (bucket_at rows at row got ∙ same) s))

-- a row of another bucket ends it
pub seek_other : (rows : List NonceRow) (word now front at : ℕ) (place : Option ℕ) (row : NonceRow) → at ≡ front - 1 → slice_get rows at ≡ Some row
    → bucket_of row.nonce.word ≢ bucket_of word
    → Seeks (nonces_in rows) word now front place → place ≡ position (is_this word now) (nonces_in rows)
seek_other rows word now front at place row is got other s =
    seek_stopped (nonces_in rows) word now front place
    (λ e. other (sym (bucket_at rows at row got) ∙ ap (λ (k : ℕ). get_or (buckets_of (nonces_in rows)) k 0) is ∙ e)) s

-- there is a row
pub seek_row : (rows : List NonceRow) (word now front at : ℕ) (place : Option ℕ) → at ≡ front - 1 → 0 < front → Seeks (nonces_in rows) word now front place
    → slice_get rows at ≡ None → ⊥
seek_row rows word now front at place is some s none =
    let lt : at < length rows = omega (arith, s.within, length-map rows (λ (r : NonceRow). r.nonce)) in
    by_row (get_or rows at blank_row) (slice_get-get_or rows at blank_row lt) where
      blank_row : NonceRow
      blank_row = record { nonce = blank; gap = 0 }

      by_row : (row : NonceRow) → slice_get rows at ≡ Some row → ⊥
      by_row row got = absurd cc
