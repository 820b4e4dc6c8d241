-- Lists: what stands at one place, what holds of some elements, and a history that is turned round.
use Rattle.std.proofs.Common.{◌≡◌, ◌⊎◌, inl, inr, ◌∙◌, ℕ, zero, suc, ◌<◌, List, [], ◌∷◌, ◌++◌, length, flat_map, filter_map, reverse, Option, Some, None, refl, sym, ap}
use Rattle.std.proofs.Common.{subst, arith, append_assoc, slice_index_or, Contains}
use Rattle.std.specs.List.{AllByRecursion, cons_option}
use Rattle.std.proofs.lemmas.List.{reverse-append}
use Rattle.sip_model.proofs.Places.{IsIn}
use Rattle.sip_model.proofs.Went.{all_left, all_right}

-- ---- places

-- what stands at a place of a list is one thing
same_at : {X : Type 0} (xs : List X) (x y : X) (k : ℕ) → k < length xs → slice_index_or xs k x ≡ x → slice_index_or xs k y ≡ y → x ≡ y
same_at [] x y k lt e f = absurd (omega arith)
same_at (z ∷ zs) x y zero lt e f = sym e ∙ f
same_at (z ∷ zs) x y (suc k) lt e f = same_at zs x y k (omega arith) e f

-- and so it is of lists that are one
pub at_one_place : {X : Type 0} (xs ys : List X) (x y : X) → xs ≡ ys → (one : Contains xs x) (other : Contains ys y) → one.0 ≡ other.0 → x ≡ y
at_one_place {X} xs ys x y same one other e =
    same_at xs x y one.0 one.1 one.2 (subst (λ (zs : List X). slice_index_or zs one.0 y ≡ y) (sym same) (subst (λ (k : ℕ). slice_index_or ys k y ≡ y) (sym e) other.2))

-- ---- elements

-- what holds of all that is made holds of what one makes
pub made_of : {X Y : Type 0} (P : Y → Type 0) (f : X → List Y) (xs : List X) (x : X) → IsIn x xs → AllByRecursion P (flat_map f xs) → AllByRecursion P (f x)
made_of P f [] x there all = absurd there
made_of {X} P f (z ∷ zs) x (inl e) all = subst (λ (w : X). AllByRecursion P (f w)) e (all_left P (f z) (flat_map f zs) all)
made_of P f (z ∷ zs) x (inr later) all = made_of P f zs x later (all_right P (f z) (flat_map f zs) all)

-- what holds of all that some make holds of it
pub chosen_of : {X Y : Type 0} (P : Y → Type 0) (f : X → Option Y) (xs : List X) (x : X) (y : Y) → IsIn x xs → f x ≡ Some y → AllByRecursion P (filter_map f xs) → P y
chosen_of P f [] x y there is all = absurd there
chosen_of {X} {Y} P f (z ∷ zs) x y there is all = by_head (λ later rest. chosen_of P f zs x y later is rest) (f z) refl all there where
  by_head : (IsIn x zs → AllByRecursion P (filter_map f zs) → P y) → (o : Option Y) → f z ≡ o → AllByRecursion P (cons_option o (filter_map f zs)) → (z ≡ x) ⊎ IsIn x zs
      → P y
  by_head rest None e others (inl here) = absurd (let none : f x ≡ None = ap f (sym here) ∙ e in cc)
  by_head rest None e others (inr later) = rest later others
  by_head rest (Some w) e others (inl here) = let same : w ≡ y = (let some : f x ≡ Some w = ap f (sym here) ∙ e in cc) in subst P same others.0
  by_head rest (Some w) e others (inr later) = rest later others.1

-- ---- turned round

-- a list that is turned round, in front of another
abbrev pub onto : {X : Type 0} → List X → List X → List X
onto [] later = later
onto (x ∷ xs) later = onto xs (x ∷ later)

-- a list with one more in front, turned round, in front of another
pub turned_round : {X : Type 0} (x : X) (xs ys : List X) → reverse (x ∷ xs) ++ ys ≡ reverse xs ++ x ∷ ys
turned_round {X} x xs ys = ap (λ (zs : List X). zs ++ ys) (reverse-append (x ∷ []) xs) ∙ append_assoc (reverse xs) (x ∷ []) ys
