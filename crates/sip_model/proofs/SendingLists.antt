-- Lists: what stands in them, what holds of all, and how many pass a test.
use Rattle.std.proofs.Common.{◌≡◌, inl, inr, ℕ, ◌+◌, ◌≤◌, Bool, true, false, not, ◌&&◌, ◌==◌, cond, List, [], ◌∷◌, ◌++◌, map, filter, Option}
use Rattle.std.proofs.Common.{Some, None, refl, sym, ap, subst, ◌∙◌, arith, count_by}
use Rattle.std.specs.List.{AllByRecursion, flat_map, filter_map}
use Rattle.std.proofs.lemmas.List.Sums.{sum_by-append}
use Rattle.sip_model.proofs.Places.{IsIn, count_cons, counts_in, none_at, one_at}
use Rattle.sip_model.proofs.Rising.{number_is}

-- ---- what stands in a list

-- what holds of each that stands there holds of all
pub all_of : {X : Type 0} (P : X → Type 0) (xs : List X) → ((x : X) → IsIn x xs → P x) → AllByRecursion P xs
all_of P [] each = tt
all_of P (x ∷ xs) each = (each x (inl refl), all_of P xs (λ y there. each y (inr there)))

-- what holds of what is made of each holds of all
pub all_mapped : {X Y : Type 0} (P : Y → Type 0) (f : X → Y) (xs : List X) → ((x : X) → IsIn x xs → P (f x)) → AllByRecursion P (map f xs)
all_mapped P f [] each = tt
all_mapped P f (x ∷ xs) each = (each x (inl refl), all_mapped P f xs (λ y there. each y (inr there)))

-- the same from two facts
pub all_both : {X : Type 0} (P Q R : X → Type 0) (xs : List X) → ((x : X) → P x → Q x → R x) → AllByRecursion P xs → AllByRecursion Q xs → AllByRecursion R xs
all_both P Q R [] both first second = tt
all_both P Q R (x ∷ xs) both first second = (both x first.0 second.0, all_both P Q R xs both first.1 second.1)

-- what holds of two lists holds of both together
pub all_joined : {X : Type 0} (P : X → Type 0) (xs ys : List X) → AllByRecursion P xs → AllByRecursion P ys → AllByRecursion P (xs ++ ys)
all_joined P [] ys front back = back
all_joined P (x ∷ xs) ys front back = (front.0, all_joined P xs ys front.1 back)

-- and the other way round, of the second
pub all_behind : {X : Type 0} (P : X → Type 0) (xs ys : List X) → AllByRecursion P (xs ++ ys) → AllByRecursion P ys
all_behind P [] ys all = all
all_behind P (x ∷ xs) ys all = all_behind P xs ys all.1

-- of the first
pub all_before : {X : Type 0} (P : X → Type 0) (xs ys : List X) → AllByRecursion P (xs ++ ys) → AllByRecursion P xs
all_before P [] ys all = tt
all_before P (x ∷ xs) ys all = (all.0, all_before P xs ys all.1)

-- what holds of all that is made of a list holds of what is made of each
pub all_flat : {X Y : Type 0} (P : Y → Type 0) (f : X → List Y) (xs : List X) (x : X) → AllByRecursion P (flat_map f xs) → IsIn x xs → AllByRecursion P (f x)
all_flat P f [] x all h = absurd h
all_flat P f (y ∷ ys) x all (inl e) = subst (λ z. AllByRecursion P (f z)) e (all_before P (f y) (flat_map f ys) all)
all_flat P f (y ∷ ys) x all (inr h) = all_flat P f ys x (all_behind P (f y) (flat_map f ys) all) h

-- the same where at most one is made of each
pub all_made : {X Y : Type 0} (P : Y → Type 0) (f : X → Option Y) (xs : List X) (x : X) (y : Y) → AllByRecursion P (filter_map f xs) → IsIn x xs → f x ≡ Some y → P y
all_made P f [] x y all h e = absurd h
all_made {Y = Y} P f (z ∷ zs) x y all h e = by_case (f z) refl (λ rest there. all_made P f zs x y rest there e) all h where
  by_case : (o : Option Y) → f z ≡ o → (AllByRecursion P (filter_map f zs) → IsIn x zs → P y) → AllByRecursion P (filter_map f (z ∷ zs)) → IsIn x (z ∷ zs) → P y
  by_case None is later all (inl same) = absurd (cc)
  by_case None is later all (inr there) = later (rw is at all) there
  by_case (Some w) is later all (inl same) = let made : w ≡ y = cc in subst P made (rw is at all).0
  by_case (Some w) is later all (inr there) = later (rw is at all).1 there

-- ---- how many pass a test

-- of two lists
pub count_joined : {X : Type 0} (p : X → Bool) (xs ys : List X) → count_by p (xs ++ ys) ≡ count_by p xs + count_by p ys
count_joined p xs ys = sum_by-append (λ x. cond (p x) 1 0) xs ys

-- where none passes the count is zero
pub count_none : {X : Type 0} (p : X → Bool) (xs : List X) → AllByRecursion (λ x. p x ≡ false) xs → count_by p xs ≡ 0
count_none p [] all = refl
count_none p (x ∷ xs) all = omega (arith, count_cons p x xs, none_at (p x) all.0, count_none p xs all.1)

-- two that pass a test which at most one passes are one
pub only_one : {X : Type 0} (p : X → Bool) (xs : List X) (x y : X) → count_by p xs ≤ 1 → IsIn x xs → IsIn y xs → p x ≡ true → p y ≡ true → x ≡ y
only_one p [] x y few here there e f = absurd here
only_one p (z ∷ zs) x y few (inl a) (inl b) e f = sym a ∙ b
only_one p (z ∷ zs) x y few (inl a) (inr there) e f = absurd (omega (arith, few, count_cons p z zs, one_at (p z) (ap p a ∙ e), counts_in p zs y there f))
only_one p (z ∷ zs) x y few (inr here) (inl b) e f = absurd (omega (arith, few, count_cons p z zs, one_at (p z) (ap p b ∙ f), counts_in p zs x here e))
only_one p (z ∷ zs) x y few (inr here) (inr there) e f = only_one p zs x y (omega (arith, few, count_cons p z zs)) here there e f

-- a count of what passes another test, and of what doesn't
pub count_parts : {X : Type 0} (p q : X → Bool) (xs : List X) → count_by p xs ≡ count_by p (filter (λ x. not (q x)) xs) + count_by p (filter q xs)
count_parts p q [] = refl
count_parts p q (x ∷ xs) = by_test (q x) (count_parts p q xs) where
  by_test : (t : Bool) → count_by p xs ≡ count_by p (filter (λ x. not (q x)) xs) + count_by p (filter q xs)
      → count_by p (x ∷ xs) ≡ count_by p (cond (not t) (x ∷ filter (λ x. not (q x)) xs) (filter (λ x. not (q x)) xs)) + count_by p
      (cond t (x ∷ filter q xs) (filter q xs))
  by_test true rest = omega (arith, count_cons p x xs, count_cons p x (filter q xs), rest)
  by_test false rest = omega (arith, count_cons p x xs, count_cons p x (filter (λ x. not (q x)) xs), rest)

-- the same moment for each that passes: none
pub none_kept : {X : Type 0} (p : X → Bool) (at : ℕ) (xs : List X) → count_by p xs ≡ 0 → map (λ (x : X). at) (filter p xs) ≡ []
none_kept p at [] e = refl
none_kept {X = X} p at (x ∷ xs) e = by_test (p x) refl (λ none. none_kept p at xs none) where
  by_test : (t : Bool) → p x ≡ t → (count_by p xs ≡ 0 → map (λ (x : X). at) (filter p xs) ≡ []) → map (λ (x : X). at) (cond t (x ∷ filter p xs) (filter p xs)) ≡ []
  by_test true is rest = absurd (omega (arith, e, count_cons p x xs, one_at (p x) is))
  by_test false is rest = rest (omega (arith, e, count_cons p x xs))

-- one
pub one_kept : {X : Type 0} (p : X → Bool) (at : ℕ) (xs : List X) → count_by p xs ≡ 1 → map (λ (x : X). at) (filter p xs) ≡ at ∷ []
one_kept p at [] e = absurd (cc)
one_kept {X = X} p at (x ∷ xs) e = by_test (p x) refl (λ one. one_kept p at xs one) where
  by_test : (t : Bool) → p x ≡ t → (count_by p xs ≡ 1 → map (λ (x : X). at) (filter p xs) ≡ at ∷ [])
      → map (λ (x : X). at) (cond t (x ∷ filter p xs) (filter p xs)) ≡ at ∷ []
  by_test true is rest = ap (λ rest. at ∷ rest) (none_kept p at xs (omega (arith, e, count_cons p x xs, one_at (p x) is)))
  by_test false is rest = rest (omega (arith, e, count_cons p x xs, none_at (p x) is))

-- ---- tests of numbers

-- others don't
pub other_number : (a b : ℕ) → (a ≡ b → ⊥) → (a == b) ≡ false
other_number a b differ = by_test (a == b) refl where
  by_test : (t : Bool) → (a == b) ≡ t → (a == b) ≡ false
  by_test true e = absurd (differ (number_is a b e))
  by_test false e = e

-- both tests pass where the two together do
pub both_pass : (s t : Bool) → (s && t) ≡ true → (s ≡ true) × (t ≡ true)
both_pass true true e = (refl, refl)
both_pass true false e = absurd (cc)
both_pass false t e = absurd (cc)
