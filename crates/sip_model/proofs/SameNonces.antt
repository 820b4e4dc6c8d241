-- What is asked of nonces, and what becomes of them, doesn't depend on those in front that no longer live.
use Rattle.std.proofs.Common.{◌≡◌, ℕ, suc, ◌-◌, ◌<◌, ◌≤◌, Bool, true, false, cond, ◌==◌, List, [], ◌∷◌, ◌++◌, length, drop, find, filter}
use Rattle.std.proofs.Common.{Option, Some, None}
use Rattle.std.proofs.Common.{refl, sym, ap, ◌∙◌, arith, inl, inr}
use Rattle.std.specs.Prelude.{◌&&◌, ◌||◌}
use Rattle.std.specs.List.{list_any}
use Rattle.std.specs.Option.{option_and_then, option_map_or}
use Rattle.std.proofs.lemmas.Bool.{cases_lt, ltb-true, lt-ltb}
use Rattle.sip_digest.specs.declared.nonces.Nonce.{Nonce}
use Rattle.sip_digest.specs.declared.nonces.Worth.TheVariants as Worth
use Rattle.sip_digest.specs.Credential.{Credential, count_of, is_answer}
use Rattle.sip_digest.specs.NonceText.{word_of}
use Rattle.sip_digest.specs.Nonces.{keep_last, is_live, is_this, issued, lasting, row_of, standing, worth_of, counted, spent_by}
use Rattle.sip_auth.specs.Proof.{Proof, Right, Stale, Wrong, used}
use Rattle.sip_model.specs.Nonces.{SameNonces}

-- ---- what no longer lives

and_false : (t : Bool) → (t && false) ≡ false
and_false true = refl
and_false false = refl

-- it doesn't live later
still_over : (now later : ℕ) (row : Nonce) → now ≤ later → is_live now row ≡ false → is_live later row ≡ false
still_over now later row le over = by_test (is_live later row) refl where
  by_test : (t : Bool) → is_live later row ≡ t → t ≡ false
  by_test false is = refl
  by_test true is =
      let short : later - row.since < 300000 = ltb-true (later - row.since) 300000 is in
      let lives : is_live now row ≡ true = lt-ltb (now - row.since) 300000 (omega (arith, short, le)) in
      sym lives ∙ over

-- and is of no word
not_this : (word now : ℕ) (row : Nonce) → is_live now row ≡ false → is_this word now row ≡ false
not_this word now row over = ap (λ (t : Bool). row.word == word && t) over ∙ and_false (row.word == word)

-- it gives way first, and whether it did can't be seen
kept_over : (most now : ℕ) (row : Nonce) (rows : List Nonce) → is_live now row ≡ false
    → lasting now (keep_last most (row ∷ rows)) ≡ lasting now (keep_last most rows)
kept_over most now row rows over = elim (cases_lt (length rows) most) [
  | inl few ↦ all few
  | inr many ↦ some many
] where
  all : length rows < most → lasting now (keep_last most (row ∷ rows)) ≡ lasting now (keep_last most rows)
  all few =
      let none : suc (length rows) - most ≡ 0 = omega (arith, few) in
      let neither : 0 ≡ length rows - most = omega (arith, few) in
      ap (λ (k : ℕ). lasting now (drop k (row ∷ rows))) none ∙ ap (λ (t : Bool). cond t (row ∷ rows) (lasting now rows)) over
      ∙ ap (λ (k : ℕ). lasting now (drop k rows)) neither

  some : most ≤ length rows → lasting now (keep_last most (row ∷ rows)) ≡ lasting now (keep_last most rows)
  some many = let one_more : suc (length rows) - most ≡ suc (length rows - most) = omega (arith, many) in
      ap (λ (k : ℕ). lasting now (drop k (row ∷ rows))) one_more

-- ---- what passes over it

-- what passes over each in front that no longer lives is of those from the first one on that does
over_is : {X : Type 0} (made : List Nonce → X) (now : ℕ) → ((row : Nonce) (rows : List Nonce) → is_live now row ≡ false → made (row ∷ rows) ≡ made rows)
    → (rows : List Nonce) → made rows ≡ made (lasting now rows)
over_is made now passes [] = refl
over_is made now passes (row ∷ rows) = by_test (is_live now row) refl (over_is made now passes rows) where
  by_test : (t : Bool) → is_live now row ≡ t → made rows ≡ made (lasting now rows) → made (row ∷ rows) ≡ made (cond t (row ∷ rows) (lasting now rows))
  by_test true is rest = refl
  by_test false is rest = passes row rows is ∙ rest

-- so it is the same of nonces that say the same
alike_by : {X : Type 0} (made : List Nonce → X) (now : ℕ) → ((row : Nonce) (rows : List Nonce) → is_live now row ≡ false → made (row ∷ rows) ≡ made rows)
    → (left right : List Nonce) → SameNonces now left right → made left ≡ made right
alike_by made now passes left right h = over_is made now passes left ∙ ap made h ∙ sym (over_is made now passes right)

-- ---- what is asked

-- the same live in both
pub live_same : (now : ℕ) (left right : List Nonce) → SameNonces now left right → filter (is_live now) left ≡ filter (is_live now) right
live_same now left right h = alike_by (filter (is_live now)) now passes left right h where
  passes : (row : Nonce) (rows : List Nonce) → is_live now row ≡ false → filter (is_live now) (row ∷ rows) ≡ filter (is_live now) rows
  passes row rows over = ap (λ (t : Bool). cond t (row ∷ filter (is_live now) rows) (filter (is_live now) rows)) over

-- of which some pass a test in both or in neither
pub live_alike : (test : Nonce → Bool) (now : ℕ) (left right : List Nonce) → SameNonces now left right
    → list_any test (filter (is_live now) left) ≡ list_any test (filter (is_live now) right)
live_alike test now left right h = ap (list_any test) (live_same now left right h)

found_same : (word now : ℕ) (left right : List Nonce) → SameNonces now left right → find (is_this word now) left ≡ find (is_this word now) right
found_same word now left right h = alike_by (find (is_this word now)) now passes left right h where
  passes : (row : Nonce) (rows : List Nonce) → is_live now row ≡ false → find (is_this word now) (row ∷ rows) ≡ find (is_this word now) rows
  passes row rows over = ap (λ (t : Bool). cond t (Some row) (find (is_this word now) rows)) (not_this word now row over)

any_same : (word now : ℕ) (left right : List Nonce) → SameNonces now left right → list_any (is_this word now) left ≡ list_any (is_this word now) right
any_same word now left right h = alike_by (list_any (is_this word now)) now passes left right h where
  passes : (row : Nonce) (rows : List Nonce) → is_live now row ≡ false → list_any (is_this word now) (row ∷ rows) ≡ list_any (is_this word now) rows
  passes row rows over = ap (λ (t : Bool). t || list_any (is_this word now) rows) (not_this word now row over)

-- a credential is worth the same
row_same : (text : List ℕ) (now : ℕ) (left right : List Nonce) → SameNonces now left right → row_of left text now ≡ row_of right text now
row_same text now left right h = by_word (word_of text) where
  by_word : (o : Option ℕ) → option_and_then (λ word. find (is_this word now) left) o ≡ option_and_then (λ word. find (is_this word now) right) o
  by_word None = refl
  by_word (Some word) = found_same word now left right h

pub worth_same : (a1 : List ℕ) (c : Credential) (now : ℕ) (left right : List Nonce) → SameNonces now left right → worth_of left a1 c now ≡ worth_of right a1 c now
worth_same a1 c now left right h =
    ap (λ (o : Option Nonce). cond (is_answer a1 c) (standing o (count_of c)) Worth.Wrong) (row_same c.nonce now left right h)

-- ---- what becomes of them

-- time passes
pub nonces_later : (now later : ℕ) (left right : List Nonce) → now ≤ later → SameNonces now left right → SameNonces later left right
nonces_later now later left right le h = alike_by (lasting later) now passes left right h where
  passes : (row : Nonce) (rows : List Nonce) → is_live now row ≡ false → lasting later (row ∷ rows) ≡ lasting later rows
  passes row rows over = ap (λ (t : Bool). cond t (row ∷ rows) (lasting later rows)) (still_over now later row le over)

-- one is used
counted_same : (word count now : ℕ) (left right : List Nonce) → SameNonces now left right → SameNonces now (counted word count left now) (counted word count right now)
counted_same word count now left right h = alike_by (λ (rows : List Nonce). lasting now (counted word count rows now)) now passes left right h where
  passes : (row : Nonce) (rows : List Nonce) → is_live now row ≡ false
      → lasting now (counted word count (row ∷ rows) now) ≡ lasting now (counted word count rows now)
  passes row rows over =
      ap (λ (t : Bool). lasting now (cond t (record row { count = count } ∷ rows) (row ∷ counted word count rows now))) (not_this word now row over)
      ∙ ap (λ (t : Bool). cond t (row ∷ counted word count rows now) (lasting now (counted word count rows now))) over

spent_same : (c : Credential) (now : ℕ) (left right : List Nonce) → SameNonces now left right → SameNonces now (spent_by left c now) (spent_by right c now)
spent_same c now left right h = by_parts (count_of c) (word_of c.nonce) where
  by_parts : (count word : Option ℕ)
      → SameNonces now (option_map_or (λ n. option_map_or (λ w. counted w n left now) word left) count left)
      (option_map_or (λ n. option_map_or (λ w. counted w n right now) word right) count right)
  by_parts None word = h
  by_parts (Some n) None = h
  by_parts (Some n) (Some w) = counted_same w n now left right h

pub used_same : (now : ℕ) (proof : Proof) (left right : List Nonce) → SameNonces now left right → SameNonces now (used left now proof) (used right now proof)
used_same now (Right name credential) left right h = spent_same credential now left right h
used_same now Stale left right h = h
used_same now Wrong left right h = h

-- one comes
pushed_same : (new : Nonce) (now : ℕ) (left right : List Nonce) → SameNonces now left right
    → SameNonces now (keep_last 4096 (left ++ new ∷ [])) (keep_last 4096 (right ++ new ∷ []))
pushed_same new now left right h = alike_by (λ (rows : List Nonce). lasting now (keep_last 4096 (rows ++ new ∷ []))) now passes left right h where
  passes : (row : Nonce) (rows : List Nonce) → is_live now row ≡ false
      → lasting now (keep_last 4096 (row ∷ rows ++ new ∷ [])) ≡ lasting now (keep_last 4096 (rows ++ new ∷ []))
  passes row rows over = kept_over 4096 now row (rows ++ new ∷ []) over

pub issued_same : (word now : ℕ) (left right : List Nonce) → SameNonces now left right → SameNonces now (issued left word now) (issued right word now)
issued_same word now left right h =
    by_tests (list_any (is_this word now) left) (list_any (is_this word now) right) (any_same word now left right h) where
      new : Nonce
      new = record { word = word; since = now; count = 0 }

      by_tests : (t u : Bool) → t ≡ u → SameNonces now (cond t left (keep_last 4096 (left ++ new ∷ []))) (cond u right (keep_last 4096 (right ++ new ∷ [])))
      by_tests true true e = h
      by_tests true false e = absurd (cc)
      by_tests false true e = absurd (cc)
      by_tests false false e = pushed_same new now left right h
