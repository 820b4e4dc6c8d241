-- Where what stands stays so, it stays in its order.
use Rattle.std.proofs.Common.{◌≡◌, ◌∙◌, Bool, true, false, cond, List, [], ◌∷◌, filter, refl, sym, ap, subst}
use Rattle.std.specs.Prelude.{nat_lt, not, ◌||◌}
use Rattle.std.specs.List.{AllByRecursion}
use Rattle.model_transactions.specs.Queue.{Entry, all_behind, behind, entries_of, has, queue_after, same_entry}
use Rattle.model_transactions.proofs.Entries.{all_there, entry_is, every, has_by_count}
use Rattle.sip_model.specs.TimerOrder.{IsQueueAfter, Standing}

-- ---- tests

-- each passes a test
abbrev Passes : (Entry → Bool) → List Entry → Type 0
Passes p es = AllByRecursion (λ (e : Entry). p e ≡ true) es

or_right : (a b : Bool) → b ≡ true → (a || b) ≡ true
or_right true b e = refl
or_right false b e = e

pass_behind : (p : Entry → Bool) (e : Entry) (es : List Entry) → p e ≡ true → Passes p es → Passes p (behind e es)
pass_behind p e [] is all = (is, tt)
pass_behind p e (x ∷ xs) is all = by_due (nat_lt e.due x.due) (pass_behind p e xs is all.1) where
  by_due : (b : Bool) → Passes p (behind e xs) → Passes p (cond b (e ∷ x ∷ xs) (x ∷ behind e xs))
  by_due true rest = (is, (all.0, all.1))
  by_due false rest = (all.0, rest)

pass_all_behind : (p : Entry → Bool) (es xs : List Entry) → Passes p es → Passes p xs → Passes p (all_behind es xs)
pass_all_behind p es [] h k = h
pass_all_behind p es (x ∷ xs) h k = pass_all_behind p (behind x es) xs (pass_behind p x es k.0 h) k.1

-- what is left by a test passes it
left_passes : (p : Entry → Bool) (es : List Entry) → Passes p (filter p es)
left_passes p [] = tt
left_passes p (e ∷ es) = by_test (p e) refl (left_passes p es) where
  by_test : (t : Bool) → p e ≡ t → Passes p (filter p es) → Passes p (cond t (e ∷ filter p es) (filter p es))
  by_test true is rest = (is, rest)
  by_test false is rest = rest

-- and what else each of them passed
still_passes : (p q : Entry → Bool) (es : List Entry) → Passes p es → Passes p (filter q es)
still_passes p q [] all = tt
still_passes p q (e ∷ es) all = by_test (q e) (still_passes p q es all.1) where
  by_test : (t : Bool) → Passes p (filter q es) → Passes p (cond t (e ∷ filter q es) (filter q es))
  by_test true rest = (all.0, rest)
  by_test false rest = rest

-- where each passes all are left
all_left : (p : Entry → Bool) (es : List Entry) → Passes p es → filter p es ≡ es
all_left p [] all = refl
all_left p (e ∷ es) all = ap (λ (t : Bool). cond t (e ∷ filter p es) (filter p es)) all.0 ∙ ap (λ (xs : List Entry). e ∷ xs) (all_left p es all.1)

-- and by the other test none
none_left : (p : Entry → Bool) (es : List Entry) → Passes p es → filter (λ (e : Entry). not (p e)) es ≡ []
none_left p [] all = refl
none_left p (e ∷ es) all = ap (λ (t : Bool). cond (not t) (e ∷ filter (λ (x : Entry). not (p x)) es) (filter (λ (x : Entry). not (p x)) es)) all.0 ∙ none_left p es all.1

-- ---- who is in a queue

itself_there : (es : List Entry) → Passes (λ (e : Entry). has e es) es
itself_there es = every es (λ e there. has_by_count e es there) (all_there es)

-- one that passes a test is among those that are left
has_left : (p : Entry → Bool) (e : Entry) (es : List Entry) → has e es ≡ true → p e ≡ true → has e (filter p es) ≡ true
has_left p e [] there is = absurd (cc)
has_left p e (x ∷ xs) there is = by_tests (same_entry e x) refl (p x) refl there (λ later. has_left p e xs later is) where
  by_tests : (t : Bool) → same_entry e x ≡ t → (u : Bool) → p x ≡ u → (t || has e xs) ≡ true → (has e xs ≡ true → has e (filter p xs) ≡ true)
      → has e (cond u (x ∷ filter p xs) (filter p xs)) ≡ true
  by_tests true same true stays there rest = ap (λ (v : Bool). v || has e (filter p xs)) same
  by_tests true same false goes there rest = absurd (let stays : p x ≡ true = subst (λ (y : Entry). p y ≡ true) (entry_is e x same) is in cc)
  by_tests false same true stays there rest = or_right (same_entry e x) (has e (filter p xs)) (rest there)
  by_tests false same false goes there rest = rest there

has_behind : (e x : Entry) (es : List Entry) → has e (behind x es) ≡ (same_entry e x || has e es)
has_behind e x [] = refl
has_behind e x (y ∷ ys) = by_due (nat_lt x.due y.due) (same_entry e x) (same_entry e y) (has_behind e x ys) where
  by_due : (b s t : Bool) → has e (behind x ys) ≡ (same_entry e x || has e ys) → has e (cond b (x ∷ y ∷ ys) (y ∷ behind x ys))
      ≡ (same_entry e x || (same_entry e y || has e ys))
  by_due true s t rest = refl
  by_due false s t rest = ap (λ (v : Bool). same_entry e y || v) rest ∙ swap (same_entry e y) (same_entry e x) (has e ys) where
    swap : (a b c : Bool) → (a || (b || c)) ≡ (b || (a || c))
    swap true true c = refl
    swap true false c = refl
    swap false true c = refl
    swap false false c = refl

-- who stood stands, and so does who came
stays_behind : (e : Entry) (es xs : List Entry) → has e es ≡ true → has e (all_behind es xs) ≡ true
stays_behind e es [] there = there
stays_behind e es (x ∷ xs) there = stays_behind e (behind x es) xs (has_behind e x es ∙ or_right (same_entry e x) (has e es) there)

comes_behind : (e : Entry) (es xs : List Entry) → has e xs ≡ true → has e (all_behind es xs) ≡ true
comes_behind e es [] there = absurd (cc)
comes_behind e es (x ∷ xs) there = by_test (same_entry e x) refl there (λ later. comes_behind e (behind x es) xs later) where
  by_test : (t : Bool) → same_entry e x ≡ t → (t || has e xs) ≡ true → (has e xs ≡ true → has e (all_behind (behind x es) xs) ≡ true)
      → has e (all_behind (behind x es) xs) ≡ true
  by_test true same there rest = stays_behind e (behind x es) xs (has_behind e x es ∙ ap (λ (v : Bool). v || has e es) same)
  by_test false same there rest = rest there

-- ---- the queue once what stands stood

module _ (queue standing : List Entry) where
  abbrev stayed : List Entry
  stayed = filter (λ (e : Entry). has e standing) queue

  abbrev came : List Entry
  came = filter (λ (e : Entry). not (has e queue)) standing

  all_stand : Passes (λ (e : Entry). has e standing) (all_behind stayed came)
  all_stand =
      pass_all_behind (λ (e : Entry). has e standing) stayed came (left_passes (λ (e : Entry). has e standing) queue)
      (still_passes (λ (e : Entry). has e standing) (λ (e : Entry). not (has e queue)) standing (itself_there standing))

  is_there : (e : Entry) → has e standing ≡ true → has e (all_behind stayed came) ≡ true
  is_there e there = by_test (has e queue) refl where
    by_test : (t : Bool) → has e queue ≡ t → has e (all_behind stayed came) ≡ true
    by_test true stood = stays_behind e stayed came (has_left (λ (x : Entry). has x standing) e queue stood there)
    by_test false new = comes_behind e stayed came (has_left (λ (x : Entry). not (has x queue)) e standing there (ap not new))

  all_are_there : Passes (λ (e : Entry). has e (all_behind stayed came)) standing
  all_are_there = every standing (λ e there. is_there e there) (itself_there standing)

  pub settled_queue : queue_after (queue_after queue standing) standing ≡ queue_after queue standing
  settled_queue =
      ap (λ (es : List Entry). all_behind es (filter (λ (e : Entry). not (has e (all_behind stayed came))) standing))
      (all_left (λ (e : Entry). has e standing) (all_behind stayed came) all_stand)
      ∙ ap (λ (es : List Entry). all_behind (all_behind stayed came) es) (none_left (λ (e : Entry). has e (all_behind stayed came)) standing all_are_there)

-- a step behind which nothing changes leaves the queue
pub stays_settled : (old new : Standing) → IsQueueAfter old new → IsQueueAfter new new
stays_settled old new is =
    is ∙ sym (settled_queue old.queue (entries_of new.state.requests)) ∙ ap (λ (q : List Entry). queue_after q (entries_of new.state.requests)) (sym is)
