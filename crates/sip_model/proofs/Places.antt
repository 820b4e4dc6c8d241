-- Open requests in their list: which are there, how many pass a test, and what replacing one leaves.
use Rattle.std.proofs.Common.{◌≡◌, ◌⊎◌, inl, inr, ℕ, zero, suc, ◌+◌, ◌≤◌, ◌<◌, Bool, true, false, cond, ◌==◌, List, [], ◌∷◌, ◌++◌, length, Some, None, refl, sym, ap}
use Rattle.std.proofs.Common.{subst, ◌∙◌, arith, slice_index_or, Contains, find, count_by, sum_by}
use Rattle.std.specs.List.{AllByRecursion}
use Rattle.std.proofs.lemmas.Bool.Decides.{nat_tests}
use Rattle.std.proofs.lemmas.List.Sums.{sum_by-cons, sum_by_push}
use Rattle.model_steps.specs.state.declared.open_request.OpenRequest.{OpenRequest}
use Rattle.model_steps.specs.state.State.{has_left}
use Rattle.model_steps.specs.Effect.{replaced}
use Rattle.sip_model.specs.Order.{is_numbered}

-- ---- membership

-- an element of a list, by recursion
abbrev pub IsIn : {X : Type 0} → X → List X → Type 0
IsIn y [] = ⊥
IsIn y (x ∷ xs) = (x ≡ y) ⊎ IsIn y xs

-- membership by place is membership by recursion
pub in_from_contains : {X : Type 0} (xs : List X) (y : X) → Contains xs y → IsIn y xs
in_from_contains [] y h = let lt = h.1 in absurd (omega arith)
in_from_contains (x ∷ xs) y h = by_place (λ there. in_from_contains xs y there) h.0 h.1 h.2 where
  by_place : (Contains xs y → IsIn y xs) → (k : ℕ) → k < length (x ∷ xs) → slice_index_or (x ∷ xs) k y ≡ y → IsIn y (x ∷ xs)
  by_place rest zero lt e = inl e
  by_place rest (suc k) lt e = inr (rest (k, omega arith, e))

-- and back
pub contains_from_in : {X : Type 0} (xs : List X) (y : X) → IsIn y xs → Contains xs y
contains_from_in [] y h = absurd h
contains_from_in (x ∷ xs) y (inl e) = (0, omega arith, e)
contains_from_in (x ∷ xs) y (inr h) = let there = contains_from_in xs y h in let lt = there.1 in (suc there.0, omega arith, there.2)

-- what holds of all holds of each
pub all_in : {X : Type 0} (P : X → Type 0) (xs : List X) (y : X) → AllByRecursion P xs → IsIn y xs → P y
all_in P [] y all h = absurd h
all_in P (x ∷ xs) y all (inl e) = subst P e all.0
all_in P (x ∷ xs) y all (inr h) = all_in P xs y all.1 h

-- what holds of all and of one more
pub all_push : {X : Type 0} (P : X → Type 0) (xs : List X) (y : X) → AllByRecursion P xs → P y → AllByRecursion P (xs ++ y ∷ [])
all_push P [] y all h = (h, tt)
all_push P (x ∷ xs) y all h = (all.0, all_push P xs y all.1 h)

-- what follows for each follows for all
pub all_weaker : {X : Type 0} (P Q : X → Type 0) (xs : List X) → ((x : X) → P x → Q x) → AllByRecursion P xs → AllByRecursion Q xs
all_weaker P Q [] weaker all = tt
all_weaker P Q (x ∷ xs) weaker all = (weaker x all.0, all_weaker P Q xs weaker all.1)

-- what is found is there, and passes
pub found_in : {X : Type 0} (p : X → Bool) (xs : List X) (y : X) → find p xs ≡ Some y → IsIn y xs × (p y ≡ true)
found_in p [] y e = absurd (cc)
found_in p (x ∷ xs) y e = by_test (p x) refl (λ later. found_in p xs y later) e where
  by_test : (t : Bool) → p x ≡ t → (find p xs ≡ Some y → IsIn y xs × (p y ≡ true)) → cond t (Some x) (find p xs) ≡ Some y → IsIn y (x ∷ xs) × (p y ≡ true)
  by_test true is rest e = let same : x ≡ y = cc in (inl same, subst (λ z. p z ≡ true) same is)
  by_test false is rest e = let later = rest e in (inr later.0, later.1)

-- ---- counts

-- a count, one by one
pub count_cons : {X : Type 0} (p : X → Bool) (x : X) (xs : List X) → count_by p (x ∷ xs) ≡ cond (p x) 1 0 + count_by p xs
count_cons p x xs = sum_by-cons (λ y. cond (p y) 1 0) x xs

-- a count with one more behind
pub count_push : {X : Type 0} (p : X → Bool) (xs : List X) (y : X) → count_by p (xs ++ y ∷ []) ≡ count_by p xs + cond (p y) 1 0
count_push p xs y = sum_by_push (λ z. cond (p z) 1 0) xs y

-- a test that passes counts
pub one_at : (t : Bool) → t ≡ true → cond {A = ℕ} t 1 0 ≡ 1
one_at true e = refl
one_at false e = absurd (cc)

-- one that fails doesn't
pub none_at : (t : Bool) → t ≡ false → cond {A = ℕ} t 1 0 ≡ 0
none_at true e = absurd (cc)
none_at false e = refl

-- where none is found, none passes
pub none_found : {X : Type 0} (p : X → Bool) (xs : List X) → find p xs ≡ None → count_by p xs ≡ 0
none_found p [] e = refl
none_found p (x ∷ xs) e = by_test (p x) refl (λ later. none_found p xs later) e where
  by_test : (t : Bool) → p x ≡ t → (find p xs ≡ None → count_by p xs ≡ 0) → cond t (Some x) (find p xs) ≡ None → count_by p (x ∷ xs) ≡ 0
  by_test true is rest e = absurd (cc)
  by_test false is rest e = omega (arith, count_cons p x xs, none_at (p x) is, rest e)

-- what is there counts
pub counts_in : {X : Type 0} (p : X → Bool) (xs : List X) (y : X) → IsIn y xs → p y ≡ true → 1 ≤ count_by p xs
counts_in p [] y h e = absurd h
counts_in p (x ∷ xs) y (inl same) e = let head = count_cons p x xs in let one = one_at (p x) (ap p same ∙ e) in omega (arith, head, one)
counts_in p (x ∷ xs) y (inr h) e = let head = count_cons p x xs in let rest = counts_in p xs y h e in omega (arith, head, rest)

-- a test that passes no more often counts no more
pub count_at_most : {X : Type 0} (p q : X → Bool) (xs : List X) → ((x : X) → p x ≡ true → q x ≡ true) → count_by p xs ≤ count_by q xs
count_at_most p q [] narrower = omega arith
count_at_most p q (x ∷ xs) narrower =
    by_test (p x) refl (count_at_most p q xs narrower) where
      by_test : (t : Bool) → p x ≡ t → count_by p xs ≤ count_by q xs → count_by p (x ∷ xs) ≤ count_by q (x ∷ xs)
      by_test true is rest = omega (arith, count_cons p x xs, count_cons q x xs, rest, one_at (p x) is, one_at (q x) (narrower x is))
      by_test false is rest = omega (arith, count_cons p x xs, count_cons q x xs, rest, none_at (p x) is)

-- ---- replacing

-- equal numbers pass the test
pub same_number : (a b : ℕ) → a ≡ b → (a == b) ≡ true
same_number a b e = grind (arith, nat_tests)

-- where a request replaces the one of its number, which is the only one, and has so much less of something, all together have
pub sum_replaced : (measure : OpenRequest → ℕ) (less : ℕ) (new old : OpenRequest) (rs : List OpenRequest) → IsIn old rs → new.number ≡ old.number
    → count_by (is_numbered old.number) rs ≤ 1 → measure new + less ≤ measure old
    → sum_by measure (replaced new rs) + less ≤ sum_by measure rs
sum_replaced measure less new old [] h e few fewer = absurd h
sum_replaced measure less new old (x ∷ xs) h e few fewer = by_test (x.number == new.number) refl (λ there one. sum_replaced measure less new old xs there e one fewer)
    h where
      stays : (left : Bool) → measure new + less ≤ measure x → sum_by measure (cond left xs (new ∷ xs)) + less ≤ sum_by measure (x ∷ xs)
      stays true is = omega (arith, is, sum_by-cons measure x xs)
      stays false is = omega (arith, is, sum_by-cons measure x xs, sum_by-cons measure new xs)

      only : (x.number == new.number) ≡ true → IsIn old (x ∷ xs) → measure new + less ≤ measure x
      only is (inl here) = subst (λ (r : OpenRequest). measure new + less ≤ measure r) (sym here) fewer
      only is (inr later) =
          let number : x.number ≡ old.number = grind (arith, nat_tests) in
          let one = one_at (is_numbered old.number x) (same_number x.number old.number number) in
          let another = counts_in (is_numbered old.number) xs old later (same_number old.number old.number refl) in
          absurd (omega (arith, few, count_cons (is_numbered old.number) x xs, one, another))

      later_in : (x.number == new.number) ≡ false → IsIn old (x ∷ xs) → IsIn old xs
      later_in is (inl here) = let number : x.number ≡ old.number = ap (λ (r : OpenRequest). r.number) here in absurd (grind (arith, nat_tests))
      later_in is (inr later) = later

      by_test : (t : Bool) → (x.number == new.number) ≡ t → (IsIn old xs → count_by (is_numbered old.number) xs ≤ 1
          → sum_by measure (replaced new xs) + less ≤ sum_by measure xs) → IsIn old (x ∷ xs)
          → sum_by measure (cond t (cond (has_left new) xs (new ∷ xs)) (x ∷ replaced new xs)) + less ≤ sum_by measure (x ∷ xs)
      by_test true is rest at = stays (has_left new) (only is at)
      by_test false is rest at =
          let one : count_by (is_numbered old.number) xs ≤ 1 = omega (arith, few, count_cons (is_numbered old.number) x xs) in
          omega (arith, sum_by-cons measure x xs, sum_by-cons measure x (replaced new xs), rest (later_in is at) one)

-- a request that replaces the one of its number, which is the only one, passes a test no more often
pub count_replaced : (p : OpenRequest → Bool) (new old : OpenRequest) (rs : List OpenRequest) → IsIn old rs → new.number ≡ old.number
    → count_by (is_numbered old.number) rs ≤ 1 → p new ≡ p old
    → count_by p (replaced new rs) ≤ count_by p rs
count_replaced p new old rs h e few same =
    let counts : cond {A = ℕ} (p new) 1 0 ≡ cond (p old) 1 0 = ap (λ (t : Bool). cond {A = ℕ} t 1 0) same in
    let total = sum_replaced (λ (r : OpenRequest). cond (p r) 1 0) 0 new old rs h e few (omega (arith, counts)) in
    omega (arith, total)

-- what holds of all, and of a request that stays open, holds of all once it replaced another
pub all_replaced : (P : OpenRequest → Type 0) (new : OpenRequest) (rs : List OpenRequest) → AllByRecursion P rs → (has_left new ≡ false → P new)
    → AllByRecursion P (replaced new rs)
all_replaced P new [] all h = tt
all_replaced P new (x ∷ xs) all h = by_test (x.number == new.number) (has_left new) refl (all_replaced P new xs all.1 h) where
  by_test : (t left : Bool) → has_left new ≡ left → AllByRecursion P (replaced new xs) → AllByRecursion P (cond t (cond left xs (new ∷ xs)) (x ∷ replaced new xs))
  by_test true true is rest = all.1
  by_test true false is rest = (h is, all.1)
  by_test false left is rest = (all.0, rest)
