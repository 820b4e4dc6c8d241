-- A value with no comma outside quoted text and brackets is one item.
use Rattle.std.proofs.Common.{◌≡◌, ℕ, zero, suc, ◌+◌, ◌-◌, ◌<◌, ◌≤◌, Bool, true, false, List, [], ◌∷◌, length, drop, get_or, Option, Some, refl, sym, ap, subst, ◌∙◌}
use Rattle.std.proofs.Common.{arith}
use Rattle.std.specs.Prelude.{◌||◌, ◌==◌, option_map}
use Rattle.memchr.specs.Find.{NoneBefore, Nowhere, Passes, is_byte, is_byte3}
use Rattle.sip_text.specs.declared.lists.ListState.TheVariants.{Outside, Quoted, Bracketed}
use Rattle.sip_text.specs.declared.cuts.Quoting.TheVariants.{Inside}
use Rattle.sip_text.specs.Cuts.{quote_end}
use Rattle.sip_text.proofs.QuoteEnds.{where_ended}
use Rattle.sip_text.specs.Lists.{is_blank, is_nil, trimmed, onto, between_cuts, cut}
use Rattle.std.proofs.lemmas.List.{length-drop}
use Rattle.sip_text.proofs.Trims.{IsTight, ends_full, tight_again}

none_of : (b : ℕ) → (is_byte3 44 34 60 b ≡ true → ⊥) → ((b == 44) ≡ false) × ((b == 34) ≡ false) × ((b == 60) ≡ false)
none_of b none = by_tests (b == 44) (b == 34) (b == 60) none
  where
    by_tests : (s t u : Bool) → ((s || t || u) ≡ true → ⊥) → (s ≡ false) × (t ≡ false) × (u ≡ false)
    by_tests true t u h = absurd (h refl)
    by_tests false true u h = absurd (h refl)
    by_tests false false true h = absurd (h refl)
    by_tests false false false h = (refl, refl, refl)

abbrev IsOne : List ℕ → Type 0
IsOne bytes = between_cuts Outside bytes ≡ Some (bytes ∷ [])

abbrev put : ℕ → Option (List (List ℕ)) → Option (List (List ℕ))
put b o = option_map (λ items. onto (b ∷ []) items) o

passed : (b : ℕ) (bs : List ℕ) → (is_byte3 44 34 60 b ≡ true → ⊥) → IsOne bs → IsOne (b ∷ bs)
passed b bs none one =
    let t : ((b == 44) ≡ false) × ((b == 34) ≡ false) × ((b == 60) ≡ false) = none_of b none in
    rw (t.0, t.1, t.2) (ap (put b) one)

front : (start : ℕ) (bytes : List ℕ) → start ≤ length bytes → ((k : ℕ) → k < start → is_byte3 44 34 60 (get_or bytes k 0) ≡ true → ⊥) → IsOne (drop start bytes)
    → IsOne bytes
front zero bytes fits none one = one
front (suc start) [] fits none one = absurd (omega arith)
front (suc start) (b ∷ bs) fits none one = passed b bs (none 0 (omega arith)) (front start bs (omega arith) (λ k lt. none (suc k) (omega arith)) one)

pub none_cuts : (bytes : List ℕ) → Nowhere (Passes (is_byte3 44 34 60) bytes) 0 (length bytes) → between_cuts Outside bytes ≡ Some (bytes ∷ [])
none_cuts [] none = refl
none_cuts (b ∷ bs) none = passed b bs (none 0 (omega arith) (omega arith)) (none_cuts bs (λ k low lt. none (suc k) (omega arith) (omega arith)))

-- a bracket that has begun ends, and nothing behind it cuts
bracketed : (end : ℕ) (bytes : List ℕ) → end < length bytes → ((k : ℕ) → k < end → is_byte 62 (get_or bytes k 0) ≡ true → ⊥) → is_byte 62 (get_or bytes end 0) ≡ true
    → IsOne (drop (suc end) bytes)
    → between_cuts Bracketed bytes ≡ Some (bytes ∷ [])
bracketed end [] lt none here one = absurd (omega arith)
bracketed zero (b ∷ bs) lt none here one = rw here (ap (put b) one)
bracketed (suc end) (b ∷ bs) lt none here one =
    let other : (b == 62) ≡ false = not_so (b == 62) (none 0 (omega arith)) in
    rw other (ap (put b) (bracketed end bs (omega arith) (λ k below. none (suc k) (omega arith)) here one))
  where
    not_so : (t : Bool) → (t ≡ true → ⊥) → t ≡ false
    not_so true h = absurd (h refl)
    not_so false h = refl

pair : (end : ℕ) (bytes : List ℕ) → get_or bytes 0 0 ≡ 60 → end < length bytes → ((k : ℕ) → k < end → is_byte 62 (get_or bytes k 0) ≡ true → ⊥)
    → is_byte 62 (get_or bytes end 0) ≡ true → IsOne (drop (suc end) bytes)
    → IsOne bytes
pair end [] first lt none here one = absurd (omega arith)
pair zero (b ∷ bs) first lt none here one =
    let clash : (60 == 62) ≡ true = subst (λ (c : ℕ). (c == 62) ≡ true) first here in absurd cc
pair (suc end) (b ∷ bs) first lt none here one = rw first (ap (put 60) (bracketed end bs (omega arith) (λ k below. none (suc k) (omega arith)) here one))

pub one_bracket : (bracket rest : List ℕ) (end : ℕ) → get_or bracket 0 0 ≡ 60 → NoneBefore (Passes (is_byte 62) bracket) 0 (length bracket) end
    × Passes (is_byte 62) bracket end → rest ≡ drop (end + 1) bracket
    → between_cuts Outside rest ≡ Some (rest ∷ []) → between_cuts Outside bracket ≡ Some (bracket ∷ [])
one_bracket bracket rest end first q behind one =
    let next : end + 1 ≡ suc end = omega arith in
    let rest_is : rest ≡ drop (suc end) bracket = behind ∙ ap (λ (n : ℕ). drop n bracket) next in
    pair end bracket first q.0.high (λ k lt. q.0.before k (omega arith) lt) q.1 (subst (λ (w : List ℕ). IsOne w) rest_is one)

-- quoted text that has begun ends, and nothing behind it cuts
abbrev IsOneBehind : List ℕ → ℕ → Type 0
IsOneBehind bytes n = IsOne (drop (suc n) bytes) → between_cuts Quoted bytes ≡ Some (bytes ∷ [])

quoted_plain : (b : ℕ) (bs : List ℕ) (n : ℕ) → (b == 34) ≡ false → (b == 92) ≡ false → IsOneBehind bs n → IsOneBehind (b ∷ bs) (suc n)
quoted_plain b bs n q p is one = rw (q, p) (ap (put b) (is one))

quoted_pair : (c : ℕ) (bs : List ℕ) (n : ℕ) → IsOneBehind bs n → IsOneBehind (92 ∷ c ∷ bs) (suc (suc n))
quoted_pair c bs n is one = ap (λ (o : Option (List (List ℕ))). put 92 (put c o)) (is one)

quoted : (n : ℕ) (bytes : List ℕ) → quote_end Inside bytes ≡ Some n → IsOne (drop (suc n) bytes) → between_cuts Quoted bytes ≡ Some (bytes ∷ [])
quoted n bytes e one = where_ended IsOneBehind (λ bs one. ap (put 34) one) quoted_plain quoted_pair bytes n e one

pub behind_quoted : (text inside rest : List ℕ) (n : ℕ) → text ≡ 34 ∷ inside → Some n ≡ quote_end Inside inside → rest ≡ drop (n + 1) inside
    → between_cuts Outside rest ≡ Some (rest ∷ []) → between_cuts Outside text ≡ Some (text ∷ [])
behind_quoted text inside rest n begins e behind one =
    let next : n + 1 ≡ suc n = omega arith in
    let rest_is : rest ≡ drop (suc n) inside = behind ∙ ap (λ (k : ℕ). drop k inside) next in
    subst (λ (w : List ℕ). IsOne w) (sym begins) (ap (put 34) (quoted n inside (sym e) (subst (λ (w : List ℕ). IsOne w) rest_is one)))

pub behind_bracketed : (text inside rest : List ℕ) (end : ℕ) → text ≡ 60 ∷ inside
    → NoneBefore (Passes (is_byte 62) inside) 0 (length inside) end × Passes (is_byte 62) inside end → rest ≡ drop (end + 1) inside
    → between_cuts Outside rest ≡ Some (rest ∷ []) → between_cuts Outside text ≡ Some (text ∷ [])
behind_bracketed text inside rest end begins q behind one =
    let next : end + 1 ≡ suc end = omega arith in
    let rest_is : rest ≡ drop (suc end) inside = behind ∙ ap (λ (k : ℕ). drop k inside) next in
    subst (λ (w : List ℕ). IsOne w) (sym begins)
    (ap (put 60) (bracketed end inside q.0.high (λ k lt. q.0.before k (omega arith) lt) q.1 (subst (λ (w : List ℕ). IsOne w) rest_is one)))

pub shorter : (text inside rest : List ℕ) (b n : ℕ) → text ≡ b ∷ inside → rest ≡ drop n inside → length rest < length text
shorter text inside rest b n begins behind = omega (arith, ap length begins, ap length behind, length-drop n inside)

pub goes_on : (text rest enclosed behind : List ℕ) (at : ℕ) → (between_cuts Outside rest ≡ Some (rest ∷ []) → between_cuts Outside text ≡ Some (text ∷ []))
    → NoneBefore (Passes (is_byte3 44 34 60) rest) 0 (length rest) at × Passes (is_byte3 44 34 60) rest at
    → enclosed ≡ drop at rest
    → (between_cuts Outside behind ≡ Some (behind ∷ []) → between_cuts Outside enclosed ≡ Some (enclosed ∷ []))
    → between_cuts Outside behind ≡ Some (behind ∷ []) → between_cuts Outside text ≡ Some (text ∷ [])
goes_on text rest enclosed behind at so_far p is inner one =
    so_far (front at rest (omega (arith, p.0.high)) (λ k lt. p.0.before k (omega arith) lt) (subst (λ (w : List ℕ). IsOne w) is (inner one)))

-- ---- as an item

not_nil : (xs : List ℕ) → 0 < length xs → is_nil xs ≡ false
not_nil [] lt = absurd (omega arith)
not_nil (x ∷ xs) lt = refl

last_full : (b : ℕ) (bs : List ℕ) → is_blank (get_or (b ∷ bs) (length bs) 0) ≡ false → ends_full (b ∷ bs)
last_full b [] e = e
last_full b (c ∷ bs) e = last_full c bs e

tight : (value : List ℕ) → 0 < length value → is_blank (get_or value 0 0) ≡ false → is_blank (get_or value (length value - 1) 0) ≡ false → IsTight value
tight [] full first last = absurd (omega arith)
tight (b ∷ bs) full first last =
    let at : length (b ∷ bs) - 1 ≡ length bs = omega arith in
    (first, last_full b bs (subst (λ (n : ℕ). is_blank (get_or (b ∷ bs) n 0) ≡ false) at last))

pub tight_item : (value : List ℕ) → 0 < length value → is_blank (get_or value 0 0) ≡ false → is_blank (get_or value (length value - 1) 0) ≡ false
    → between_cuts Outside value ≡ Some (value ∷ []) → cut value ≡ Some (value ∷ [])
tight_item value full first last one =
    let kept : trimmed value ≡ value = tight_again value (tight value full first last) in
    let some : is_nil value ≡ false = not_nil value full in
    rw one (rw kept (rw some refl))
