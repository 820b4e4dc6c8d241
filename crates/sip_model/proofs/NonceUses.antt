-- The counts with which right credentials use a nonce rise.
use Rattle.std.proofs.Common.{◌≡◌, ℕ, zero, suc, ◌+◌, ◌≤◌, ◌<◌, Bool, true, false, cond, List, [], ◌∷◌, ◌++◌, length, find, Option, Some, None, refl, sym, subst, ap, ◌∙◌}
use Rattle.std.proofs.Common.{arith, count_by, take, drop}
use Rattle.std.specs.Prelude.{◌==◌, ◌-◌, nat_lt}
use Rattle.std.specs.Option.{option_map_or, option_and_then, option_to_list}
use Rattle.std.specs.List.{AllByRecursion, list_any}
use Rattle.std.proofs.lemmas.Bool.Decides.{nat_tests}
use Rattle.std.proofs.lemmas.List.Sums.{sum_by-cons, sum_by-append, sum_by-take-drop}
use Rattle.sip_digest.specs.declared.nonces.Nonce.{Nonce}
use Rattle.sip_digest.specs.declared.nonces.Worth.TheVariants as Worths
use Rattle.sip_digest.specs.Credential.{Credential, is_answer, count_of}
use Rattle.sip_digest.specs.NonceText.{word_of}
use Rattle.sip_digest.specs.Nonces.{is_this, issued, standing, worth_of, counted}
use Rattle.sip_auth.specs.Proof.{Proof, Right, Stale, Wrong, used}
use Rattle.sip_model.specs.Histories.{right_count, AreFalling}
use Rattle.sip_model.proofs.Places.{all_push}

-- whether a row is of a word
abbrev pub is_of_word : ℕ → Nonce → Bool
is_of_word word row = row.word == word

-- a row of a word has at least each of these counts
abbrev pub IsAbove : ℕ → List ℕ → Nonce → Type 0
IsAbove word counts row = is_of_word word row ≡ true → AllByRecursion (λ count. count ≤ row.count) counts

-- The rows after a history in which a word was issued so often, and its nonce used with these counts
pub record AreKept (word issues : ℕ) (counts : List ℕ) (rows : List Nonce) : Type 0 where
  pub are_few : count_by (is_of_word word) rows ≤ issues
  pub are_above : AllByRecursion (IsAbove word counts) rows
  pub were_issued : issues ≡ 0 → counts ≡ []
  pub are_falling : AreFalling counts

-- ---- counts

count_first : (p : Nonce → Bool) (x : Nonce) (xs : List Nonce) → count_by p (x ∷ xs) ≡ cond (p x) 1 0 + count_by p xs
count_first p x xs = sum_by-cons (λ y. cond (p y) 1 0) x xs

count_true : (p : Nonce → Bool) (x : Nonce) (xs : List Nonce) → p x ≡ true → count_by p (x ∷ xs) ≡ 1 + count_by p xs
count_true p x xs e = count_first p x xs ∙ ap (λ (b : Bool). cond b 1 0 + count_by p xs) e

count_false : (p : Nonce → Bool) (x : Nonce) (xs : List Nonce) → p x ≡ false → count_by p (x ∷ xs) ≡ count_by p xs
count_false p x xs e = let zero_more : 0 + count_by p xs ≡ count_by p xs = omega arith in count_first p x xs ∙ ap (λ (b : Bool). cond b 1 0 + count_by p xs) e ∙ zero_more

count_none : (p : Nonce → Bool) → count_by p [] ≡ 0
count_none p = refl

count_joined : (p : Nonce → Bool) (xs ys : List Nonce) → count_by p (xs ++ ys) ≡ count_by p xs + count_by p ys
count_joined p xs ys = sum_by-append (λ y. cond (p y) 1 0) xs ys

count_split : (p : Nonce → Bool) (n : ℕ) (xs : List Nonce) → count_by p (take n xs) + count_by p (drop n xs) ≡ count_by p xs
count_split p n xs = sum_by-take-drop (λ y. cond (p y) 1 0) xs n

count_kept : (p : Nonce → Bool) (n : ℕ) (xs : List Nonce) → count_by p (drop n xs) ≤ count_by p xs
count_kept p n xs = omega (arith, count_split p n xs)

all_dropped : (P : Nonce → Type 0) (n : ℕ) (xs : List Nonce) → AllByRecursion P xs → AllByRecursion P (drop n xs)
all_dropped P zero xs h = h
all_dropped P (suc n) [] h = tt
all_dropped P (suc n) (x ∷ xs) h = all_dropped P n xs h.1

-- true isn't false
never : false ≡ true → ⊥
never e = cc

-- what is found passes, and has what all have
found_is : (P : Nonce → Type 0) (p : Nonce → Bool) (xs : List Nonce) (r : Nonce) → AllByRecursion P xs → find p xs ≡ Some r → (p r ≡ true) × P r
found_is P p [] r h e = absurd (cc)
found_is P p (x ∷ xs) r h e = by_test (p x) refl (found_is P p xs r h.1) e where
  by_test : (t : Bool) → p x ≡ t → (find p xs ≡ Some r → (p r ≡ true) × P r) → cond t (Some x) (find p xs) ≡ Some r → (p r ≡ true) × P r
  by_test true is later found = let same : x ≡ r = cc in (subst (λ (y : Nonce). p y ≡ true) same is, subst P same h.0)
  by_test false is later found = later found

-- ---- issuing

-- the last 4,096 rows
abbrev pub last_rows : List Nonce → List Nonce
last_rows rows = drop (length rows - 4096) rows

-- nothing was issued and used
pub nothing_kept : (word : ℕ) → AreKept word 0 [] []
nothing_kept word = record { are_few = omega (arith, count_none (is_of_word word)); are_above = tt; were_issued = λ e. refl; are_falling = tt }

-- one more row that doesn't count, of which the last 4,096 are kept
few_same : (p : Nonce → Bool) (rows : List Nonce) (row : Nonce) → p row ≡ false → count_by p (last_rows (rows ++ row ∷ [])) ≤ count_by p rows
few_same p rows row e =
    omega (arith, count_kept p (length (rows ++ row ∷ []) - 4096) (rows ++ row ∷ []), count_joined p rows (row ∷ []), count_false p row [] e, count_none p)

few_more : (p : Nonce → Bool) (rows : List Nonce) (row : Nonce) → p row ≡ true → count_by p (last_rows (rows ++ row ∷ [])) ≤ count_by p rows + 1
few_more p rows row e =
    omega (arith, count_kept p (length (rows ++ row ∷ []) - 4096) (rows ++ row ∷ []), count_joined p rows (row ∷ []), count_true p row [] e, count_none p)

-- one more row of another word
pushed_other : (word issues : ℕ) (counts : List ℕ) (rows : List Nonce) (row : Nonce) → is_of_word word row ≡ false → AreKept word issues counts rows
    → AreKept word issues counts (last_rows (rows ++ row ∷ []))
pushed_other word issues counts rows row unlike h =
    let less = few_same (is_of_word word) rows row unlike in
    let few = h.are_few in
    record {
      are_few = omega (arith, less, few);
      are_above = all_dropped (IsAbove word counts) (length (rows ++ row ∷ []) - 4096) (rows ++ row ∷ [])
          (all_push (IsAbove word counts) rows row h.are_above (λ same. absurd (never (sym unlike ∙ same))));
      were_issued = h.were_issued;
      are_falling = h.are_falling;
    }

issued_other : (word issues : ℕ) (counts : List ℕ) (rows : List Nonce) (other now : ℕ) → (other == word) ≡ false → AreKept word issues counts rows
    → AreKept word issues counts (issued rows other now)
issued_other word issues counts rows other now unlike h = by_test (list_any (is_this other now) rows) where
  by_test : (t : Bool) → AreKept word issues counts (cond t rows (last_rows (rows ++ record { word = other; since = now; count = 0 } ∷ [])))
  by_test true = h
  by_test false = pushed_other word issues counts rows (record { word = other; since = now; count = 0 }) unlike h

-- the first row of a word
all_above : (word : ℕ) (rows : List Nonce) → AllByRecursion (IsAbove word []) rows
all_above word [] = tt
all_above word (row ∷ rows) = (λ same. tt, all_above word rows)

pushed_first : (word : ℕ) (rows : List Nonce) (row : Nonce) → is_of_word word row ≡ true → count_by (is_of_word word) rows ≤ 0
    → AreKept word 1 [] (last_rows (rows ++ row ∷ []))
pushed_first word rows row same few =
    let more = few_more (is_of_word word) rows row same in
    record { are_few = omega (arith, more, few); are_above = all_above word (last_rows (rows ++ row ∷ [])); were_issued = λ e. refl; are_falling = tt }

same_number : (n : ℕ) → (n == n) ≡ true
same_number n = grind (arith, nat_tests)

issued_first : (word : ℕ) (counts : List ℕ) (rows : List Nonce) (now : ℕ) → AreKept word 0 counts rows → AreKept word 1 counts (issued rows word now)
issued_first word counts rows now h = subst (λ (cs : List ℕ). AreKept word 1 cs (issued rows word now)) (sym (h.were_issued refl))
    (by_test (list_any (is_this word now) rows)) where
      by_test : (t : Bool) → AreKept word 1 [] (cond t rows (last_rows (rows ++ record { word = word; since = now; count = 0 } ∷ [])))
      by_test true = let few = h.are_few in record { are_few = omega (arith, few); are_above = all_above word rows; were_issued = λ e. refl; are_falling = tt }
      by_test false = pushed_first word rows (record { word = word; since = now; count = 0 }) (same_number word) h.are_few

-- ---- using

-- a use changes no word
counted_words : (p : ℕ → Bool) (word count : ℕ) (rows : List Nonce) (now : ℕ) → count_by (λ (row : Nonce). p row.word) (counted word count rows now)
    ≡ count_by (λ (row : Nonce). p row.word) rows
counted_words p word count [] now = refl
counted_words p word count (row ∷ rows) now = by_test (is_this word now row) (counted_words p word count rows now) where
  by_test : (t : Bool) → count_by (λ (r : Nonce). p r.word) (counted word count rows now) ≡ count_by (λ (r : Nonce). p r.word) rows
      → count_by (λ (r : Nonce). p r.word) (cond t (record row { count = count } ∷ rows) (row ∷ counted word count rows now))
      ≡ count_by (λ (r : Nonce). p r.word) (row ∷ rows)
  by_test true later = count_first (λ (r : Nonce). p r.word) (record row { count = count }) rows ∙ sym (count_first (λ (r : Nonce). p r.word) row rows)
  by_test false later =
      count_first (λ (r : Nonce). p r.word) row (counted word count rows now) ∙ ap (λ (n : ℕ). cond (p row.word) 1 0 + n) later
      ∙ sym (count_first (λ (r : Nonce). p r.word) row rows)

-- a row that is used is of the word
this_word : (word now : ℕ) (row : Nonce) → is_this word now row ≡ true → row.word ≡ word
this_word word now row e = grind (arith, nat_tests)

-- a use of another word leaves the rows of a word
counted_other : (word : ℕ) (counts : List ℕ) (other count : ℕ) (rows : List Nonce) (now : ℕ) → (other == word) ≡ false → AllByRecursion (IsAbove word counts) rows
    → AllByRecursion (IsAbove word counts) (counted other count rows now)
counted_other word counts other count [] now unlike h = tt
counted_other word counts other count (row ∷ rows) now unlike h = by_test (is_this other now row) refl (counted_other word counts other count rows now unlike h.1) where
  by_test : (t : Bool) → is_this other now row ≡ t → AllByRecursion (IsAbove word counts) (counted other count rows now)
      → AllByRecursion (IsAbove word counts) (cond t (record row { count = count } ∷ rows) (row ∷ counted other count rows now))
  by_test true is later =
      let its : row.word ≡ other = this_word other now row is in
      let not_it : is_of_word word row ≡ false = ap (λ (w : ℕ). w == word) its ∙ unlike in
      (λ same. absurd (never (sym not_it ∙ same)), h.1)
  by_test false is later = (h.0, later)

-- where a row is found there is one of the word
found_counts : (word now : ℕ) (rows : List Nonce) (r : Nonce) → find (is_this word now) rows ≡ Some r → 1 ≤ count_by (is_of_word word) rows
found_counts word now [] r e = absurd (cc)
found_counts word now (row ∷ rows) r e = by_test (is_this word now row) refl (found_counts word now rows r) e where
  by_test : (t : Bool) → is_this word now row ≡ t → (find (is_this word now) rows ≡ Some r → 1 ≤ count_by (is_of_word word) rows)
      → cond t (Some row) (find (is_this word now) rows) ≡ Some r → 1 ≤ count_by (is_of_word word) (row ∷ rows)
  by_test true is later found =
      let its : row.word ≡ word = this_word word now row is in
      let it : is_of_word word row ≡ true = ap (λ (w : ℕ). w == word) its ∙ same_number word in
      omega (arith, count_true (is_of_word word) row rows it)
  by_test false is later found = omega (arith, later found, count_first (is_of_word word) row rows)

-- where none is of a word, whatever is asked of these holds
none_above : (word : ℕ) (counts : List ℕ) (rows : List Nonce) → count_by (is_of_word word) rows ≤ 0 → AllByRecursion (IsAbove word counts) rows
none_above word counts [] none = tt
none_above word counts (row ∷ rows) none = by_test (is_of_word word row) refl (none_above word counts rows) where
  by_test : (t : Bool) → is_of_word word row ≡ t → (count_by (is_of_word word) rows ≤ 0 → AllByRecursion (IsAbove word counts) rows)
      → IsAbove word counts row × AllByRecursion (IsAbove word counts) rows
  by_test true is later = absurd (let one = count_true (is_of_word word) row rows is in omega (arith, none, one))
  by_test false is later = (λ same. absurd (never (sym is ∙ same)), later (omega (arith, none, count_false (is_of_word word) row rows is)))

-- the one row of a word has the count with which it was used
counted_above : (word count : ℕ) (counts : List ℕ) (rows : List Nonce) (now : ℕ) (r : Nonce) → find (is_this word now) rows ≡ Some r → count_by (is_of_word word) rows ≤ 1
    → AllByRecursion (λ earlier. earlier ≤ count) counts → AllByRecursion (IsAbove word counts) (counted word count rows now)
counted_above word count counts [] now r e few h = tt
counted_above word count counts (row ∷ rows) now r e few h = by_test (is_this word now row) refl (λ found less. counted_above word count counts rows now r found less h)
    e where
      by_test : (t : Bool) → is_this word now row ≡ t
          → (find (is_this word now) rows ≡ Some r → count_by (is_of_word word) rows ≤ 1 → AllByRecursion (IsAbove word counts) (counted word count rows now))
          → cond t (Some row) (find (is_this word now) rows) ≡ Some r
          → AllByRecursion (IsAbove word counts) (cond t (record row { count = count } ∷ rows) (row ∷ counted word count rows now))
      by_test true is later found =
          let its : row.word ≡ word = this_word word now row is in
          let it : is_of_word word row ≡ true = ap (λ (w : ℕ). w == word) its ∙ same_number word in
          (λ same. h, none_above word counts rows (omega (arith, few, count_true (is_of_word word) row rows it)))
      by_test false is later found = by_word (is_of_word word row) refl (later found) (found_counts word now rows r found) where
        by_word : (u : Bool) → is_of_word word row ≡ u → (count_by (is_of_word word) rows ≤ 1 → AllByRecursion (IsAbove word counts) (counted word count rows now))
            → 1 ≤ count_by (is_of_word word) rows → IsAbove word counts row × AllByRecursion (IsAbove word counts) (counted word count rows now)
        by_word true it after one = absurd (let two = count_true (is_of_word word) row rows it in omega (arith, few, one, two))
        by_word false it after one = (λ same. absurd (never (sym it ∙ same)), after (omega (arith, few, count_false (is_of_word word) row rows it)))

-- ---- a proof

-- what is above these is at least these
weakly : (n : ℕ) (counts : List ℕ) → AllByRecursion (λ (earlier : ℕ). earlier < n) counts → AllByRecursion (λ (earlier : ℕ). earlier ≤ n) counts
weakly n [] h = tt
weakly n (c ∷ cs) h = let less = h.0 in (omega (arith, less), weakly n cs h.1)

under : (top n : ℕ) (counts : List ℕ) → top < n → AllByRecursion (λ (earlier : ℕ). earlier ≤ top) counts → AllByRecursion (λ (earlier : ℕ). earlier < n) counts
under top n [] less h = tt
under top n (c ∷ cs) less h = let no_more = h.0 in (omega (arith, no_more, less), under top n cs less h.1)

-- a count that stands right is above that of its row
right_row : (o : Option Nonce) (n : ℕ) → standing o (Some n) ≡ Worths.Right → (r : Nonce) × (o ≡ Some r) × (r.count < n)
right_row None n e = absurd (cc)
right_row (Some r) n e = by_test (nat_lt r.count n) refl e where
  by_test : (t : Bool) → nat_lt r.count n ≡ t → cond t Worths.Right Worths.Stale ≡ Worths.Right → (x : Nonce) × (Some r ≡ Some x) × (x.count < n)
  by_test true is right = (r, refl, grind (arith, nat_tests))
  by_test false is right = absurd (cc)

-- one without a count isn't
uncounted : (o : Option Nonce) → standing o None ≡ Worths.Right → ⊥
uncounted None e = absurd (cc)
uncounted (Some r) e = absurd (cc)

-- the nonce of a word is used with a count above that of its row
used_this : (word issues : ℕ) (counts : List ℕ) (rows : List Nonce) (now n : ℕ) (r : Nonce) → find (is_this word now) rows ≡ Some r → r.count < n → issues ≤ 1
    → AreKept word issues counts rows
    → AreKept word issues (n ∷ counts) (counted word n rows now)
used_this word issues counts rows now n r found less once h =
    let it = found_is (IsAbove word counts) (is_this word now) rows r h.are_above found in
    let its : r.word ≡ word = this_word word now r it.0 in
    let same : is_of_word word r ≡ true = ap (λ (w : ℕ). w == word) its ∙ same_number word in
    let above : AllByRecursion (λ (earlier : ℕ). earlier < n) counts = under r.count n counts less (it.1 same) in
    record {
      are_few = omega (arith, h.are_few, counted_words (λ w. w == word) word n rows now);
      are_above = counted_above word n (n ∷ counts) rows now r found (omega (arith, h.are_few, once)) (omega arith, weakly n counts above);
      were_issued = λ none. absurd (omega (arith, none, h.are_few, found_counts word now rows r found));
      are_falling = (above, h.are_falling);
    }

-- a proof of a credential that is right uses its nonce
pub used_kept : (word issues : ℕ) (counts : List ℕ) (rows : List Nonce) (now : ℕ) (p : Proof)
    → ((name : List ℕ) (c : Credential) → p ≡ Right name c → (a1 : List ℕ) × (worth_of rows a1 c now ≡ Worths.Right)) → issues ≤ 1 → AreKept word issues counts rows
    → AreKept word issues (right_count word p ++ counts) (used rows now p)
used_kept word issues counts rows now Stale right once h = h
used_kept word issues counts rows now Wrong right once h = h
used_kept word issues counts rows now (Right name c) right once h =
    let worth = right name c refl in by_parts (is_answer worth.0 c) (word_of c.nonce) (count_of c) worth.1 where
      by_word : (w n : ℕ) (r : Nonce) (t : Bool) → (w == word) ≡ t → find (is_this w now) rows ≡ Some r → r.count < n
          → AreKept word issues (cond t (n ∷ []) [] ++ counts) (counted w n rows now)
      by_word w n r true is found less =
          let same : w ≡ word = grind (arith, nat_tests) in
          subst (λ (x : ℕ). AreKept word issues (n ∷ counts) (counted x n rows now)) (sym same)
          (used_this word issues counts rows now n r (subst (λ (x : ℕ). find (is_this x now) rows ≡ Some r) same found) less once h)
      by_word w n r false is found less =
          record {
            are_few = omega (arith, h.are_few, counted_words (λ x. x == word) w n rows now);
            are_above = counted_other word counts w n rows now is h.are_above;
            were_issued = h.were_issued;
            are_falling = h.are_falling;
          }

      by_parts : (answer : Bool) (named counted_as : Option ℕ)
          → cond answer (standing (option_and_then (λ w. find (is_this w now) rows) named) counted_as) Worths.Wrong ≡ Worths.Right
          → AreKept word issues (option_map_or (λ w. cond (w == word) (option_to_list counted_as) []) named [] ++ counts)
          (option_map_or (λ n. option_map_or (λ w. counted w n rows now) named rows) counted_as rows)
      by_parts false named counted_as e = absurd (cc)
      by_parts true None counted_as e = absurd (cc)
      by_parts true (Some w) None e = absurd (uncounted (find (is_this w now) rows) e)
      by_parts true (Some w) (Some n) e = let row = right_row (find (is_this w now) rows) n e in by_word w n row.0 (w == word) refl row.1 row.2

-- a challenge issues its nonce
pub issued_kept : (word issues : ℕ) (counts : List ℕ) (rows : List Nonce) (other now : ℕ) → cond (other == word) 1 0 + issues ≤ 1 → AreKept word issues counts rows
    → AreKept word (cond (other == word) 1 0 + issues) counts (issued rows other now)
issued_kept word issues counts rows other now once h = by_word (other == word) refl once where
  by_word : (t : Bool) → (other == word) ≡ t → cond t 1 0 + issues ≤ 1 → AreKept word (cond t 1 0 + issues) counts (issued rows other now)
  by_word true is few =
      let same : other ≡ word = grind (arith, nat_tests) in
      let none : issues ≡ 0 = omega (arith, few) in
      let more : 1 ≡ 1 + issues = omega (arith, none) in
      subst (λ (k : ℕ). AreKept word k counts (issued rows other now)) more
      (subst (λ (x : ℕ). AreKept word 1 counts (issued rows x now)) (sym same) (issued_first word counts rows now (subst (λ (k : ℕ). AreKept word k counts rows) none h)))
  by_word false is few =
      let no_more : issues ≡ 0 + issues = omega arith in subst (λ (k : ℕ). AreKept word k counts (issued rows other now)) no_more
      (issued_other word issues counts rows other now is h)
