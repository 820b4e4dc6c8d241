-- Texts that differ without case: in another order, and where they are in order.
use Rattle.std.proofs.Common.{◌≡◌, ℕ, ◌+◌, ◌<◌, Bool, true, false, List, [], ◌∷◌, map, length, get_or, drop, Bor, Ordering, Less, Equal, Greater, IsPermutation, IsSorted}
use Rattle.std.proofs.Common.{is_eq, is_lt, refl, sym, ap, ◌∙◌, arith}
use Rattle.std.specs.Prelude.{◌&&◌, ◌||◌, ◌↔◌, not}
use Rattle.std.specs.Cmp.{IsTotalOrder, IsStrictWeakOrder, Equal-is}
use Rattle.std.specs.List.{AllByRecursion, AllPairs, IsDistinct, list_any}
use Rattle.std.specs.Ordering.{eq_by_cmp, ordering_reverse}
use Rattle.std.proofs.lemmas.Cmp.{on_total, nat_list_cmp_total, nat_list_eq_equiv}
use Rattle.std.proofs.lemmas.List.{drop_more, get_or_default, map-id}
use Rattle.std.proofs.lemmas.List.Sorted.{IsPermutation-sym, ranks_by}
use Rattle.std.proofs.lemmas.Map.Keys.{IsDistinct-head, IsDistinct-tail, IsDistinct-cons, IsDistinct-from_sorted, IsDistinct-from_apart, IsDistinct-IsPermutation}
use Rattle.std.proofs.lemmas.Map.Keys.{apart_from_distinct, sorted_from_all_adjacent}
use Rattle.std.proofs.lemmas.Map.Text.{is_eq-slice_cmp}
use Rattle.sip_text.specs.Words.{without_case, is_same_text}
use Rattle.sip_text.specs.Distinct.{order_without_case, all_differ}

-- ---- the order

pub order_is_total : IsTotalOrder order_without_case
order_is_total = on_total without_case nat_list_cmp_total

pub tie_is_same : (left right : List ℕ) → is_eq (order_without_case left right) ≡ is_same_text left right
tie_is_same left right = is_eq-slice_cmp (without_case left) (without_case right)

pub same_is_symmetric : (left right : List ℕ) → is_same_text left right ≡ is_same_text right left
same_is_symmetric left right = nat_list_eq_equiv.symm (without_case left) (without_case right)

pub equal_is_same : (left right : List ℕ) → (order_without_case left right ≡ Equal) ↔ (is_same_text left right ≡ true)
equal_is_same left right =
    let equal = Equal-is (order_without_case left right) in
    (λ e. sym (tie_is_same left right) ∙ equal.1 e, λ e. equal.0 (tie_is_same left right ∙ e))

-- where one text ends in front of the other
pub order_at_end : (left behind right : List ℕ) (i : ℕ) → i < length left → length behind ≡ 0 → order_without_case (drop i left) behind ≡ order_without_case left right
    → Greater ≡ order_without_case left right
order_at_end left [] right i within none is = sym (ap (λ (w : List ℕ). order_without_case w []) (drop_more left i 0 within)) ∙ is
order_at_end left (b ∷ bs) right i within none is = let no : ⊥ = omega arith in absurd no

-- ---- texts behind references

abbrev pub Text : Type 0
Text = Bor (List ℕ)

abbrev pub texts_of : List Text → List (List ℕ)
texts_of ts = map (λ x. x.now) ts

abbrev pub order : Text → Text → Ordering
order a b = order_without_case a.now b.now

abbrev pub is_same : Text → Text → Bool
is_same a b = is_same_text a.now b.now

pub order_ranks : IsStrictWeakOrder (λ (a : Text) (b : Text). is_lt (order_without_case a.now b.now))
order_ranks = ranks_by order_is_total (λ (a : Text). a.now)

-- ---- the test and the fact, at items that each have a text

none_distinct : {X : Type 0} (e : X → X → Bool) → IsDistinct e []
unfolding IsDistinct
none_distinct e = tt

module _ {X : Type 0} (text : X → List ℕ) where
  abbrev same_by : X → X → Bool
  same_by a b = is_same_text (text a) (text b)

  none_from : (x : X) (xs : List X) → list_any (λ other. is_same_text (text x) other) (map text xs) ≡ false → AllByRecursion (λ y. same_by x y ≡ false) xs
  none_from x [] e = tt
  none_from x (y ∷ ys) e = by_first (same_by x y) refl e (none_from x ys)
    where
      by_first : (b : Bool) → same_by x y ≡ b → (b || list_any (λ other. is_same_text (text x) other) (map text ys)) ≡ false
          → (list_any (λ other. is_same_text (text x) other) (map text ys) ≡ false → AllByRecursion (λ z. same_by x z ≡ false) ys)
          → AllByRecursion (λ z. same_by x z ≡ false) (y ∷ ys)
      by_first true is e rest = absurd cc
      by_first false is e rest = (is, rest e)

  none_back : (x : X) (xs : List X) → AllByRecursion (λ y. same_by x y ≡ false) xs → list_any (λ other. is_same_text (text x) other) (map text xs) ≡ false
  none_back x [] h = refl
  none_back x (y ∷ ys) h = rw h.0 (none_back x ys h.1)

  distinct_from : (xs : List X) → all_differ (map text xs) ≡ true → IsDistinct same_by xs
  distinct_from [] e = none_distinct same_by
  distinct_from (x ∷ xs) e = by_first (list_any (λ other. is_same_text (text x) other) (map text xs)) refl e (distinct_from xs)
    where
      by_first : (b : Bool) → list_any (λ other. is_same_text (text x) other) (map text xs) ≡ b → (not b && all_differ (map text xs)) ≡ true
          → (all_differ (map text xs) ≡ true → IsDistinct same_by xs) → IsDistinct same_by (x ∷ xs)
      by_first true is e rest = absurd cc
      by_first false is e rest = IsDistinct-cons same_by x xs (none_from x xs is) (rest e)

  differ_from : (xs : List X) → IsDistinct same_by xs → all_differ (map text xs) ≡ true
  differ_from [] h = refl
  differ_from (x ∷ xs) h = rw (none_back x xs (IsDistinct-head same_by x xs h)) (differ_from xs (IsDistinct-tail same_by x xs h))

-- what the test says of texts by their places
pub differ_by_places : (texts : List (List ℕ)) → (all_differ texts ≡ true) ↔ AllPairs (λ a b. is_same_text a b ≡ false) texts
differ_by_places texts =
    let same : map (λ (x : List ℕ). x) texts ≡ texts = map-id texts in (
      (λ e i j d less within. apart_from_distinct is_same_text texts i j d (distinct_from (λ (x : List ℕ). x) texts (ap all_differ same ∙ e)) less within),
      λ h. ap all_differ (sym same) ∙ differ_from (λ (x : List ℕ). x) texts (IsDistinct-from_apart is_same_text texts h),
    )

-- ---- another order

pub alike : (a b : Bool) → (a ≡ true → b ≡ true) → (b ≡ true → a ≡ true) → a ≡ b
alike true true f g = refl
alike true false f g = sym (f refl)
alike false true f g = g refl
alike false false f g = refl

pub differ_in_any_order : (old new : List Text) → IsPermutation old new → all_differ (texts_of new) ≡ all_differ (texts_of old)
differ_in_any_order old new moved =
    let flips : (a b : Text) → is_same a b ≡ is_same b a = λ a b. same_is_symmetric a.now b.now in
    alike (all_differ (texts_of new)) (all_differ (texts_of old)) (λ e. differ_from (λ (x : Text). x.now) old
    (IsDistinct-IsPermutation is_same flips new old (IsPermutation-sym old new moved) (distinct_from (λ (x : Text). x.now) new e)))
    (λ e. differ_from (λ (x : Text). x.now) new (IsDistinct-IsPermutation is_same flips old new moved (distinct_from (λ (x : Text). x.now) old e)))

-- ---- texts in order

-- the texts at i and j differ
abbrev pub DifferAt : List Text → ℕ → ℕ → Type 0
DifferAt ts i j = (d : Text) → is_same (get_or ts i d) (get_or ts j d) ≡ false

pub DifferAt-from_differ : (ts : List Text) (i j : ℕ) → all_differ (texts_of ts) ≡ true → i < j → j < length ts → DifferAt ts i j
DifferAt-from_differ ts i j e less within d = apart_from_distinct is_same ts i j d (distinct_from (λ (x : Text). x.now) ts e) less within

pub some_stands_twice : (ts : List Text) (i j : ℕ) (d e : Text) → i < j → j < length ts → is_same_text (get_or ts i d).now (get_or ts j e).now ≡ true
    → false ≡ all_differ (texts_of ts)
some_stands_twice ts i j d e less within same = by_all (all_differ (texts_of ts)) refl
  where
    by_all : (b : Bool) → all_differ (texts_of ts) ≡ b → false ≡ b
    by_all false is = refl
    by_all true is =
        let other : is_same_text (get_or ts i d).now (get_or ts j e).now ≡ false = ap (λ (t : Text). is_same_text (get_or ts i d).now t.now)
        (get_or_default ts j e d within) ∙ DifferAt-from_differ ts i j is less within d in
        absurd cc

only_less : (o p : Ordering) → o ≡ ordering_reverse p → is_lt p ≡ false → is_eq o ≡ false → o ≡ Less
only_less o Less e p q = cc
only_less o Equal e p q = let tie = ap is_eq (sym e) ∙ q in cc
only_less o Greater e p q = e

same_tests : (e f : Text → Text → Bool) → ((a b : Text) → e a b ≡ f a b) → (ts : List Text) → IsDistinct e ts → IsDistinct f ts
same_tests e f are [] h = none_distinct f
same_tests e f are (t ∷ ts) h = IsDistinct-cons f t ts (all ts (IsDistinct-head e t ts h)) (same_tests e f are ts (IsDistinct-tail e t ts h))
  where
    all : (us : List Text) → AllByRecursion (λ y. e t y ≡ false) us → AllByRecursion (λ y. f t y ≡ false) us
    all [] a = tt
    all (u ∷ us) a = (sym (are t u) ∙ a.0, all us a.1)

-- Neighbours that are in order and differ rise strictly, and so do all pairs.
all_rise : (ts : List Text) (d : Text) → IsSorted order ts → ((k : ℕ) → k + 1 < length ts → DifferAt ts k (k + 1)) → all_differ (texts_of ts) ≡ true
all_rise ts d sorted neighbours =
    let total : IsTotalOrder order = on_total (λ (a : Text). a.now) order_is_total in
    let rises : (k : ℕ) → k + 1 < length ts → order (get_or ts k d) (get_or ts (k + 1) d) ≡ Less =
    λ k h. let x = get_or ts k d in let y = get_or ts (k + 1) d in
    only_less (order x y) (order y x) (total.antisymm x y) (sorted k d (omega arith) h) (tie_is_same x.now y.now ∙ neighbours k h d) in
    differ_from (λ (x : Text). x.now) ts (same_tests (eq_by_cmp order) is_same (λ a b. tie_is_same a.now b.now) ts
    (IsDistinct-from_sorted order ts (sorted_from_all_adjacent total ts d rises)))

pub differ_from_neighbours : (ts : List Text) → IsSorted order ts → ((k : ℕ) → k + 1 < length ts → DifferAt ts k (k + 1)) → true ≡ all_differ (texts_of ts)
differ_from_neighbours [] sorted neighbours = refl
differ_from_neighbours (t ∷ ts) sorted neighbours = sym (all_rise (t ∷ ts) t sorted neighbours)
