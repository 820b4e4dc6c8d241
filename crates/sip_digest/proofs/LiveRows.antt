-- At most one row of a word lives.
use Rattle.std.proofs.Common.{◌≡◌, ℕ, ◌+◌, ◌-◌, ◌<◌, ◌≤◌, Bool, true, false, cond, ◌==◌, List, [], ◌∷◌, ◌++◌, length, drop, reverse, find, count_by, Option, Some, None}
use Rattle.std.proofs.Common.{refl, sym, ap, ◌∙◌, arith, eqb-true}
use Rattle.std.specs.Prelude.{◌||◌}
use Rattle.std.specs.Option.{option_map_or}
use Rattle.std.specs.List.{list_any}
use Rattle.std.proofs.lemmas.Bool.{and_parts, and_from, ltb-true, lt-ltb}
use Rattle.std.proofs.lemmas.List.{reverse-append}
use Rattle.std.proofs.lemmas.List.Sums.{sum_by-cons, sum_by_push, sum_by-take-drop}
use Rattle.sip_digest.specs.declared.nonces.Nonce.{Nonce}
use Rattle.sip_digest.specs.Credential.{Credential, count_of}
use Rattle.sip_digest.specs.NonceText.{word_of}
use Rattle.sip_digest.specs.Nonces.{keep_last, is_live, is_this, issued, counted, spent_by, HasOneLive}
use Rattle.sip_digest.proofs.Counting.{with_count}

-- ---- counts

count_cons : {X : Type 0} (p : X → Bool) (x : X) (xs : List X) → count_by p (x ∷ xs) ≡ cond (p x) 1 0 + count_by p xs
count_cons p x xs = sum_by-cons (λ y. cond (p y) 1 0) x xs

count_push : {X : Type 0} (p : X → Bool) (xs : List X) (x : X) → count_by p (xs ++ x ∷ []) ≡ count_by p xs + cond (p x) 1 0
count_push p xs x = sum_by_push (λ y. cond (p y) 1 0) xs x

count_dropped : {X : Type 0} (p : X → Bool) (k : ℕ) (xs : List X) → count_by p (drop k xs) ≤ count_by p xs
count_dropped p k xs = omega (arith, sum_by-take-drop (λ y. cond (p y) 1 0) xs k)

one_at : (t : Bool) → t ≡ true → cond {A = ℕ} t 1 0 ≡ 1
one_at true e = refl
one_at false e = absurd cc

none_at : (t : Bool) → t ≡ false → cond {A = ℕ} t 1 0 ≡ 0
none_at true e = absurd cc
none_at false e = refl

at_most_one : (t : Bool) → cond {A = ℕ} t 1 0 ≤ 1
at_most_one true = omega arith
at_most_one false = omega arith

implied : (t u : Bool) → (t ≡ true → u ≡ true) → cond {A = ℕ} t 1 0 ≤ cond u 1 0
implied true u h = omega (arith, one_at u (h refl))
implied false u h = omega arith

-- a narrower test passes no more often
count_implied : {X : Type 0} (p q : X → Bool) (xs : List X) → ((x : X) → p x ≡ true → q x ≡ true) → count_by p xs ≤ count_by q xs
count_implied p q [] h = omega arith
count_implied p q (x ∷ xs) h = omega (arith, count_cons p x xs, count_cons q x xs, implied (p x) (q x) (h x), count_implied p q xs h)

uncounted : {X : Type 0} (p : X → Bool) (xs : List X) → list_any p xs ≡ false → count_by p xs ≡ 0
uncounted p [] none = refl
uncounted p (x ∷ xs) none = by_test (p x) refl none (λ e. uncounted p xs e) where
  by_test : (t : Bool) → p x ≡ t → (t || list_any p xs) ≡ false → (list_any p xs ≡ false → count_by p xs ≡ 0) → count_by p (x ∷ xs) ≡ 0
  by_test true is e rest = absurd cc
  by_test false is e rest = omega (arith, count_cons p x xs, none_at (p x) is, rest e)

-- ---- later

lives_before : (now later : ℕ) (row : Nonce) → now ≤ later → is_live later row ≡ true → is_live now row ≡ true
lives_before now later row le lives =
    let short : later - row.since < 300000 = ltb-true (later - row.since) 300000 lives in
    lt-ltb (now - row.since) 300000 (omega (arith, short, le))

pub one_later : (rows : List Nonce) (now later : ℕ) → now ≤ later → HasOneLive now rows → HasOneLive later rows
one_later rows now later le one word =
    omega (
      arith,
      one word,
      count_implied (is_this word later) (is_this word now) rows (λ row is.
          let both = and_parts (row.word == word) (is_live later row) is in
          and_from (row.word == word) (is_live now row) both.0 (lives_before now later row le both.1)),
    )

-- ---- issued

pub one_issued : (rows : List Nonce) (word now : ℕ) → HasOneLive now rows → HasOneLive now (issued rows word now)
one_issued rows word now one other = by_known (list_any (is_this word now) rows) refl where
  new : Nonce
  new = record { word = word; since = now; count = 0 }

  pushed : (t : Bool) → is_this other now new ≡ t → list_any (is_this word now) rows ≡ false → count_by (is_this other now) (rows ++ new ∷ []) ≤ 1
  pushed false is unknown = omega (arith, one other, count_push (is_this other now) rows new, none_at (is_this other now new) is)
  pushed true is unknown =
      let same : word ≡ other = eqb-true word other (and_parts (word == other) (is_live now new) is).0 in
      let none : count_by (is_this other now) rows ≡ 0 = ap (λ (w : ℕ). count_by (is_this w now) rows) (sym same) ∙ uncounted (is_this word now) rows unknown in
      omega (arith, none, count_push (is_this other now) rows new, at_most_one (is_this other now new))

  by_known : (t : Bool) → list_any (is_this word now) rows ≡ t → count_by (is_this other now) (cond t rows (keep_last 4096 (rows ++ new ∷ []))) ≤ 1
  by_known true is = one other
  by_known false is =
      omega (arith, pushed (is_this other now new) refl is, count_dropped (is_this other now) (length (rows ++ new ∷ []) - 4096) (rows ++ new ∷ []))

-- ---- used

count_counted : (other word count now : ℕ) (rows : List Nonce) → count_by (is_this other now) (counted word count rows now) ≡ count_by (is_this other now) rows
count_counted other word count now [] = refl
count_counted other word count now (row ∷ rows) = by_test (is_this word now row) (count_counted other word count now rows) where
  by_test : (t : Bool) → count_by (is_this other now) (counted word count rows now) ≡ count_by (is_this other now) rows
      → count_by (is_this other now) (cond t (with_count row count ∷ rows) (row ∷ counted word count rows now)) ≡ count_by (is_this other now) (row ∷ rows)
  by_test true rest = count_cons (is_this other now) (with_count row count) rows ∙ sym (count_cons (is_this other now) row rows)
  by_test false rest = omega (arith, rest, count_cons (is_this other now) row rows, count_cons (is_this other now) row (counted word count rows now))

pub one_used : (rows : List Nonce) (c : Credential) (now : ℕ) → HasOneLive now rows → HasOneLive now (spent_by rows c now)
one_used rows c now one other = by_parts (count_of c) (word_of c.nonce) where
  by_parts : (count word : Option ℕ) → count_by (is_this other now) (option_map_or (λ n. option_map_or (λ w. counted w n rows now) word rows) count rows) ≤ 1
  by_parts None word = one other
  by_parts (Some n) None = one other
  by_parts (Some n) (Some w) = omega (arith, one other, count_counted other w n now rows)

-- ---- the first is the newest

not_found : {X : Type 0} (p : X → Bool) (xs : List X) → count_by p xs ≡ 0 → find p xs ≡ None
not_found p [] none = refl
not_found p (x ∷ xs) none = by_test (p x) refl (not_found p xs (omega (arith, none, count_cons p x xs))) where
  by_test : (t : Bool) → p x ≡ t → find p xs ≡ None → cond t (Some x) (find p xs) ≡ None
  by_test true is rest = absurd (omega (arith, none, count_cons p x xs, one_at (p x) is))
  by_test false is rest = rest

abbrev or_last : {X : Type 0} → (X → Bool) → X → Option X → Option X
or_last p x None = cond (p x) (Some x) None
or_last p x (Some y) = Some y

found_behind : {X : Type 0} (p : X → Bool) (xs : List X) (x : X) → find p (xs ++ x ∷ []) ≡ or_last p x (find p xs)
found_behind p [] x = refl
found_behind p (y ∷ xs) x = by_test (p y) (found_behind p xs x) where
  by_test : (t : Bool) → find p (xs ++ x ∷ []) ≡ or_last p x (find p xs) → cond t (Some y) (find p (xs ++ x ∷ [])) ≡ or_last p x (cond t (Some y) (find p xs))
  by_test true rest = refl
  by_test false rest = rest

reversed : {X : Type 0} (x : X) (xs : List X) → reverse (x ∷ xs) ≡ reverse xs ++ x ∷ []
reversed x xs = reverse-append (x ∷ []) xs

pub found_either_way : {X : Type 0} (p : X → Bool) (xs : List X) → count_by p xs ≤ 1 → find p (reverse xs) ≡ find p xs
found_either_way p [] few = refl
found_either_way {X = X} p (x ∷ xs) few =
    ap (find p) (reversed x xs) ∙ found_behind p (reverse xs) x ∙ ap (or_last p x) (found_either_way p xs (omega (arith, few, count_cons p x xs)))
    ∙ by_test (p x) refl where
      last_of : (t : Bool) (o : Option X) → p x ≡ t → (t ≡ true → o ≡ None) → or_last p x o ≡ cond t (Some x) o
      last_of true None is none = rw is refl
      last_of true (Some y) is none = absurd (let e = none refl in cc)
      last_of false None is none = rw is refl
      last_of false (Some y) is none = refl

      by_test : (t : Bool) → p x ≡ t → or_last p x (find p xs) ≡ cond t (Some x) (find p xs)
      by_test t is = last_of t (find p xs) is (λ yes. not_found p xs (omega (arith, few, count_cons p x xs, one_at (p x) (is ∙ yes))))

pub newest_counts : (rows : List Nonce) (word now : ℕ) → HasOneLive now rows → find (is_this word now) (reverse rows) ≡ find (is_this word now) rows
newest_counts rows word now one = found_either_way (is_this word now) rows (one word)
