-- Lists in an order, and lists in another order.
use Rattle.std.proofs.Common.{◌≡◌, ℕ, suc, ◌+◌, Bool, true, false, List, [], ◌∷◌, get_or, Bor, Ordering, Less, Equal, Greater, IsPermutation, IsSorted, is_lt, is_gt}
use Rattle.std.proofs.Common.{refl, sym, ap, subst, ◌∙◌, arith}
use Rattle.std.specs.Prelude.{◌&&◌, ◌||◌, not}
use Rattle.std.specs.Cmp.{IsTotalOrder}
use Rattle.std.specs.List.{AllByRecursion, list_all, list_any}
use Rattle.std.specs.List.Sorted.{IsSortedBy}
use Rattle.std.specs.Ordering.{ordering_reverse}
use Rattle.std.proofs.lemmas.Cmp.{upto, alike_right}
use Rattle.std.proofs.lemmas.List.Sorted.{list_any-IsPermutation, IsPermutation-map}
use Rattle.sip_uri_equality.specs.Order.{AreInOrder, those_of}

-- ---- from neighbours to all

turned : (o p : Ordering) → o ≡ ordering_reverse p → is_lt p ≡ false → is_gt o ≡ false
turned o Less e f = absurd cc
turned o Equal e f = ap is_gt e
turned o Greater e f = ap is_gt e

tail_sorted : {X : Type 0} (lt : X → X → Bool) (x : X) (xs : List X) → IsSortedBy lt (x ∷ xs) → IsSortedBy lt xs
tail_sorted lt x xs up k d low within =
    let next : suc k + 1 ≡ suc (k + 1) = omega arith in
    let h : lt (get_or (x ∷ xs) (suc k + 1) d) (get_or (x ∷ xs) (suc k) d) ≡ false = up (suc k) d (omega arith) (omega arith) in
    subst (λ (j : ℕ). lt (get_or (x ∷ xs) j d) (get_or xs k d) ≡ false) next h

module _ {X : Type 0} {order : X → X → Ordering} (total : IsTotalOrder order) where
  further : (x y : X) (zs : List X) → is_gt (order x y) ≡ false → AllByRecursion (λ z. is_gt (order y z) ≡ false) zs → AllByRecursion (λ z. is_gt (order x z) ≡ false) zs
  further x y [] e all = tt
  further x y (z ∷ zs) e all = (upto total x y z e all.0, further x y zs e all.1)

  pub in_order : (xs : List X) → IsSorted order xs → AreInOrder order xs
  in_order [] up = tt
  in_order (x ∷ []) up = (tt, tt)
  in_order (x ∷ y ∷ ys) up =
      let first : is_gt (order x y) ≡ false = turned (order x y) (order y x) (total.antisymm x y) (up 0 x (omega arith) (omega arith)) in
      let rest : AreInOrder order (y ∷ ys) = in_order (y ∷ ys) (tail_sorted (λ a b. is_lt (order a b)) x (y ∷ ys) up) in
      ((first, further x y ys first rest.0), rest)

  -- what goes in front of the first goes in front of all
  strictly : (x y z : X) → order x y ≡ Less → is_gt (order y z) ≡ false → order x z ≡ Less
  strictly x y z e f = by_second (order y z) refl f
    where
      by_second : (o : Ordering) → order y z ≡ o → is_gt o ≡ false → order x z ≡ Less
      by_second Less is f = total.trans x y z e is
      by_second Equal is f = sym (alike_right total y z x is) ∙ e
      by_second Greater is f = absurd cc

  pub all_behind : (x y : X) (zs : List X) → order x y ≡ Less → AreInOrder order (y ∷ zs) → AllByRecursion (λ z. order x z ≡ Less) (y ∷ zs)
  all_behind x y zs e up = (e, later zs up.0)
    where
      later : (zs : List X) → AllByRecursion (λ z. is_gt (order y z) ≡ false) zs → AllByRecursion (λ z. order x z ≡ Less) zs
      later [] all = tt
      later (z ∷ zs) all = (strictly x y z e all.0, later zs all.1)

  turns : (x y : X) → order x y ≡ Greater → order y x ≡ Less
  turns x y e = total.antisymm y x ∙ ap ordering_reverse e

  pub all_behind_other : (x y : X) (zs : List X) → order y x ≡ Greater → AreInOrder order (y ∷ zs) → AllByRecursion (λ z. order x z ≡ Less) (y ∷ zs)
  all_behind_other x y zs e up = all_behind x y zs (turns y x e) up

-- ---- in another order

and_is_not : (a b c : Bool) → b ≡ not c → (a && b) ≡ not (not a || c)
and_is_not true b c e = e
and_is_not false b c e = refl

none_fails : {X : Type 0} (p : X → Bool) (xs : List X) → list_all p xs ≡ not (list_any (λ x. not (p x)) xs)
none_fails p [] = refl
none_fails p (x ∷ xs) = and_is_not (p x) (list_all p xs) (list_any (λ x. not (p x)) xs) (none_fails p xs)

pub all_in_any_order : {X : Type 0} (p : X → Bool) (xs ys : List X) → IsPermutation xs ys → list_all p xs ≡ list_all p ys
all_in_any_order p xs ys moved = none_fails p xs ∙ ap not (list_any-IsPermutation (λ x. not (p x)) xs ys moved) ∙ sym (none_fails p ys)

-- ---- behind references

pub behind_references : {X : Type 0} (order : X → X → Ordering) (xs : List (Bor X)) → AreInOrder (λ (a : Bor X) (b : Bor X). order a.now b.now) xs
    → AreInOrder order (those_of xs)
behind_references order [] up = tt
behind_references {X = X} order (x ∷ xs) up = (all xs up.0, behind_references order xs up.1)
  where
    all : (ys : List (Bor X)) → AllByRecursion (λ (y : Bor X). is_gt (order x.now y.now) ≡ false) ys → AllByRecursion (λ y. is_gt (order x.now y) ≡ false) (those_of ys)
    all [] a = tt
    all (y ∷ ys) a = (a.0, all ys a.1)

pub moved_behind_references : {X : Type 0} (items : List X) (places moved : List (Bor X)) → those_of places ≡ items → IsPermutation places moved
    → IsPermutation items (those_of moved)
moved_behind_references {X = X} items places moved are perm = subst (λ (xs : List X). IsPermutation xs (those_of moved)) are
    (IsPermutation-map (λ (x : Bor X). x.now) places moved perm)
