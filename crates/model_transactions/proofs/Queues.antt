-- Queues of timers that come to stand one behind the other.
use Rattle.std.proofs.Common.{◌≡◌, ◌≤◌, ◌<◌, List, [], ◌∷◌, ◌++◌, ltb, cond, Bool, true, false, refl, ap, sym, ◌∙◌, subst, append-nil, arith}
use Rattle.std.specs.Prelude.{not, ◌||◌, filter}
use Rattle.std.specs.List.{AllByRecursion}
use Rattle.std.proofs.lemmas.Bool.Decides.{nat_tests}
use Rattle.std.proofs.lemmas.List.Elements.{filter-append}
use Rattle.model_transactions.specs.Queue.{Entry, same_entry, has, behind, all_behind, queue_after, AreDueInOrder}
use Rattle.model_transactions.proofs.Entries.{entry_is, has_by_count, all_there, every}

-- ---- filters

filter-all : (q : Entry → Bool) (es : List Entry) → AllByRecursion (λ e. q e ≡ true) es → filter q es ≡ es
filter-all q [] all = refl
filter-all q (e ∷ es) all = ap (λ b. cond b (e ∷ filter q es) (filter q es)) all.0 ∙ ap (λ xs. e ∷ xs) (filter-all q es all.1)

filter-none : (q : Entry → Bool) (es : List Entry) → AllByRecursion (λ e. q e ≡ false) es → filter q es ≡ []
filter-none q [] all = refl
filter-none q (e ∷ es) all = ap (λ b. cond b (e ∷ filter q es) (filter q es)) all.0 ∙ filter-none q es all.1

filter-same : (p q : Entry → Bool) (es : List Entry) → AllByRecursion (λ e. p e ≡ q e) es → filter p es ≡ filter q es
filter-same p q [] all = refl
filter-same p q (e ∷ es) all = ap (λ b. cond b (e ∷ filter p es) (filter p es)) all.0 ∙ ap (λ xs. cond (q e) (e ∷ xs) xs) (filter-same p q es all.1)

-- ---- the order

all_behind_it : (e x : Entry) (es : List Entry) → e.due < x.due → AllByRecursion (λ (y : Entry). x.due ≤ y.due) es → AllByRecursion (λ (y : Entry). e.due < y.due) es
all_behind_it e x [] early all = tt
all_behind_it e x (y ∷ ys) early all = (omega (arith, early, all.0), all_behind_it e x ys early all.1)

-- what is due before all others goes in front
goes_in_front : (q : Entry → Bool) (e : Entry) (es : List Entry) → AllByRecursion (λ (y : Entry). e.due < y.due) es → behind e (filter q es) ≡ e ∷ filter q es
goes_in_front q e [] all = refl
goes_in_front q e (x ∷ xs) all = by_test (q x) (goes_in_front q e xs all.1) where
  early : ltb e.due x.due ≡ true
  early = grind (arith, nat_tests, all.0)

  by_test : (b : Bool) → behind e (filter q xs) ≡ e ∷ filter q xs → behind e (cond b (x ∷ filter q xs) (filter q xs)) ≡ e ∷ cond b (x ∷ filter q xs) (filter q xs)
  by_test true rest = ap (λ b. cond b (e ∷ x ∷ filter q xs) (x ∷ behind e (filter q xs))) early
  by_test false rest = rest

goes_past : (e x : Entry) (a b : Bool) (rest whole : List Entry) → ltb e.due x.due ≡ false → whole ≡ cond b (behind e rest) rest
    → cond a (x ∷ whole) whole ≡ cond b (behind e (cond a (x ∷ rest) rest)) (cond a (x ∷ rest) rest)
goes_past e x true true rest whole late is = ap (λ xs. x ∷ xs) is ∙ sym (ap (λ b. cond b (e ∷ x ∷ rest) (x ∷ behind e rest)) late)
goes_past e x true false rest whole late is = ap (λ xs. x ∷ xs) is
goes_past e x false b rest whole late is = is

filter-behind : (q : Entry → Bool) (e : Entry) (es : List Entry) → AreDueInOrder es → filter q (behind e es) ≡ cond (q e) (behind e (filter q es)) (filter q es)
filter-behind q e [] h = refl
filter-behind q e (x ∷ xs) h = by_due (ltb e.due x.due) refl (filter-behind q e xs h.1) where
  by_due : (b : Bool) → ltb e.due x.due ≡ b → filter q (behind e xs) ≡ cond (q e) (behind e (filter q xs)) (filter q xs)
      → filter q (cond b (e ∷ x ∷ xs) (x ∷ behind e xs)) ≡ cond (q e) (behind e (filter q (x ∷ xs))) (filter q (x ∷ xs))
  by_due true early rest =
      let less : e.due < x.due = grind (arith, nat_tests, early) in
      ap (λ es. cond (q e) es (filter q (x ∷ xs))) (sym (goes_in_front q e (x ∷ xs) (less, all_behind_it e x xs less h.0)))
  by_due false late rest = goes_past e x (q x) (q e) (filter q xs) (filter q (behind e xs)) late rest

all_later : (e x : Entry) (es : List Entry) → x.due ≤ e.due → AllByRecursion (λ (y : Entry). x.due ≤ y.due) es
    → AllByRecursion (λ (y : Entry). x.due ≤ y.due) (behind e es)
all_later e x [] late all = (late, tt)
all_later e x (y ∷ ys) late all = by_test (ltb e.due y.due) (all_later e x ys late all.1) where
  by_test : (b : Bool) → AllByRecursion (λ (z : Entry). x.due ≤ z.due) (behind e ys) →
      AllByRecursion (λ (z : Entry). x.due ≤ z.due) (cond b (e ∷ y ∷ ys) (y ∷ behind e ys))
  by_test true rest = (late, all)
  by_test false rest = (all.0, rest)

weak : (e : Entry) (es : List Entry) → AllByRecursion (λ (y : Entry). e.due < y.due) es → AllByRecursion (λ (y : Entry). e.due ≤ y.due) es
weak e [] all = tt
weak e (y ∷ ys) all = (omega (arith, all.0), weak e ys all.1)

pub in_order-behind : (e : Entry) (es : List Entry) → AreDueInOrder es → AreDueInOrder (behind e es)
in_order-behind e [] h = (tt, tt)
in_order-behind e (x ∷ xs) h = by_due (ltb e.due x.due) refl (in_order-behind e xs h.1) where
  by_due : (b : Bool) → ltb e.due x.due ≡ b → AreDueInOrder (behind e xs) → AreDueInOrder (cond b (e ∷ x ∷ xs) (x ∷ behind e xs))
  by_due true early rest =
      let less : e.due < x.due = grind (arith, nat_tests, early) in
      (weak e (x ∷ xs) (less, all_behind_it e x xs less h.0), h)
  by_due false late rest = (all_later e x xs (grind (arith, nat_tests, late)) h.0, rest)

filter-all_behind : (q : Entry → Bool) (es xs : List Entry) → AreDueInOrder es → filter q (all_behind es xs) ≡ all_behind (filter q es) (filter q xs)
filter-all_behind q es [] h = refl
filter-all_behind q es (x ∷ xs) h =
    filter-all_behind q (behind x es) xs (in_order-behind x es h) ∙ ap (λ ys. all_behind ys (filter q xs)) (filter-behind q x es h) ∙ by_test (q x) where
      by_test : (b : Bool) → all_behind (cond b (behind x (filter q es)) (filter q es)) (filter q xs) ≡ all_behind (filter q es) (cond b (x ∷ filter q xs) (filter q xs))
      by_test true = refl
      by_test false = refl

all_behind-append : (es xs ys : List Entry) → all_behind es (xs ++ ys) ≡ all_behind (all_behind es xs) ys
all_behind-append es [] ys = refl
all_behind-append es (x ∷ xs) ys = all_behind-append (behind x es) xs ys

-- ---- who is in a queue

has-append : (e : Entry) (xs ys : List Entry) → has e (xs ++ ys) ≡ (has e xs || has e ys)
has-append e [] ys = refl
has-append e (x ∷ xs) ys = by_test (same_entry e x) (has-append e xs ys) where
  by_test : (b : Bool) → has e (xs ++ ys) ≡ (has e xs || has e ys) → (b || has e (xs ++ ys)) ≡ ((b || has e xs) || has e ys)
  by_test true rest = refl
  by_test false rest = rest

has-behind : (e x : Entry) (es : List Entry) → has e (behind x es) ≡ (same_entry e x || has e es)
has-behind e x [] = refl
has-behind e x (y ∷ ys) = by_due (ltb x.due y.due) (same_entry e x) (same_entry e y) (has-behind e x ys) where
  by_due : (b s t : Bool) → has e (behind x ys) ≡ (same_entry e x || has e ys) → has e (cond b (x ∷ y ∷ ys) (y ∷ behind x ys))
      ≡ (same_entry e x || (same_entry e y || has e ys))
  by_due true s t rest = refl
  by_due false s t rest = ap (λ v. same_entry e y || v) rest ∙ swap (same_entry e y) (same_entry e x) (has e ys) where
    swap : (a b c : Bool) → (a || (b || c)) ≡ (b || (a || c))
    swap true true c = refl
    swap true false c = refl
    swap false true c = refl
    swap false false c = refl

has-all_behind : (e : Entry) (es xs : List Entry) → has e (all_behind es xs) ≡ (has e xs || has e es)
has-all_behind e es [] = refl
has-all_behind e es (x ∷ xs) = has-all_behind e (behind x es) xs ∙ ap (λ v. has e xs || v) (has-behind e x es) ∙ turn (has e xs) (same_entry e x) (has e es) where
  turn : (a b c : Bool) → (a || (b || c)) ≡ ((b || a) || c)
  turn true true c = refl
  turn true false c = refl
  turn false true c = refl
  turn false false c = refl

itself_there : (es : List Entry) → AllByRecursion (λ (e : Entry). has e es ≡ true) es
itself_there es = every es (λ e there. has_by_count e es there) (all_there es)

-- ---- one request is opened, then another one is changed

or-true : (a b : Bool) → b ≡ true → (a || b) ≡ true
or-true true b e = refl
or-true false b e = e

or-first : (a b : Bool) → a ≡ true → (a || b) ≡ true
or-first true b e = refl
or-first false b e = absurd (cc)

-- one of some that are none of others isn't one that those have
none_of : (e : Entry) (opened rest : List Entry) → has e rest ≡ true → AllByRecursion (λ (o : Entry). has o rest ≡ false) opened → has e opened ≡ false
none_of e [] rest there none = refl
none_of e (o ∷ os) rest there none = by_test (same_entry e o) refl (none_of e os rest there none.1) where
  by_test : (b : Bool) → same_entry e o ≡ b → has e os ≡ false → (b || has e os) ≡ false
  by_test true is others =
      let lacks : has e rest ≡ false = subst (λ (x : Entry). has x rest ≡ false) (sym (entry_is e o is)) none.0 in
      absurd (cc)
  by_test false is others = others

module _ (queue opened before after : List Entry) (ordered : AreDueInOrder queue) (exact : (e : Entry) → has e queue ≡ has e before)
    (new : AllByRecursion (λ (o : Entry). has o before ≡ false) opened) (apart : AllByRecursion (λ (o : Entry). has o after ≡ false) opened) where
  abbrev left : List Entry
  left = filter (λ e. has e (opened ++ after)) queue

  abbrev more : List Entry
  more = filter (λ e. not (has e queue)) after

  all_stay : filter (λ e. has e (opened ++ before)) queue ≡ queue
  all_stay = filter-all (λ e. has e (opened ++ before)) queue
      (every queue (λ e there. has-append e opened before ∙ or-true (has e opened) (has e before) (sym (exact e) ∙ there)) (itself_there queue))

  they_join : filter (λ e. not (has e queue)) (opened ++ before) ≡ opened
  they_join =
      filter-append (λ e. not (has e queue)) opened before
      ∙ ap (λ es. es ++ filter (λ e. not (has e queue)) before) (filter-all (λ e. not (has e queue)) opened (every opened (λ o lacks. ap not (exact o ∙ lacks)) new))
      ∙ ap (λ es. opened ++ es) (filter-none (λ e. not (has e queue)) before (every before (λ e there. ap not (exact e ∙ there)) (itself_there before)))
      ∙ append-nil opened

  first : queue_after queue (opened ++ before) ≡ all_behind queue opened
  first = ap (λ es. all_behind es (filter (λ e. not (has e queue)) (opened ++ before))) all_stay ∙ ap (λ es. all_behind queue es) they_join

  still : filter (λ e. has e (opened ++ after)) (all_behind queue opened) ≡ all_behind left opened
  still = filter-all_behind (λ e. has e (opened ++ after)) queue opened ordered
      ∙ ap (λ es. all_behind left es) (filter-all (λ e. has e (opened ++ after)) opened
      (every opened (λ e there. has-append e opened after ∙ or-first (has e opened) (has e after) there) (itself_there opened)))

  no_more : filter (λ e. not (has e (all_behind queue opened))) (opened ++ after) ≡ more
  no_more =
      filter-append (λ e. not (has e (all_behind queue opened))) opened after
      ∙ ap (λ es. es ++ filter (λ e. not (has e (all_behind queue opened))) after)
      (filter-none (λ e. not (has e (all_behind queue opened))) opened
      (every opened (λ e there. ap not (has-all_behind e queue opened ∙ or-first (has e opened) (has e queue) there)) (itself_there opened)))
      ∙ filter-same (λ e. not (has e (all_behind queue opened))) (λ e. not (has e queue)) after
      (every after (λ e there. ap not (has-all_behind e queue opened ∙ ap (λ v. v || has e queue) (none_of e opened after there apart))) (itself_there after))

  both : filter (λ e. not (has e queue)) (opened ++ after) ≡ opened ++ more
  both = filter-append (λ e. not (has e queue)) opened after
      ∙ ap (λ es. es ++ more) (filter-all (λ e. not (has e queue)) opened (every opened (λ o lacks. ap not (exact o ∙ lacks)) new))

  pub opened_and_changed : queue_after (queue_after queue (opened ++ before)) (opened ++ after) ≡ queue_after queue (opened ++ after)
  opened_and_changed =
      ap (λ q. queue_after q (opened ++ after)) first
      ∙ ap (λ es. all_behind es (filter (λ e. not (has e (all_behind queue opened))) (opened ++ after))) still
      ∙ ap (λ es. all_behind (all_behind left opened) es) no_more
      ∙ sym (all_behind-append left opened more)
      ∙ ap (λ es. all_behind left es) (sym both)
