-- The same headers in any order: as often in one list as in another, and pairwise the same where both are in order.
use Rattle.std.proofs.Common.{◌≡◌, ℕ, ◌+◌, Bool, true, false, cond, List, [], ◌∷◌, Bor, Ordering, Less, Equal, Greater, IsPermutation, is_eq, is_lt, count_by, refl, sym}
use Rattle.std.proofs.Common.{ap, ap₂, ◌∙◌, eq-eqb, arith}
use Rattle.std.specs.Prelude.{◌&&◌}
use Rattle.std.specs.Cmp.{IsTotalOrder, IsStrictWeakOrder, IsEquivalence}
use Rattle.std.specs.Cmp.Lexicographic.{pointwise}
use Rattle.std.specs.List.{AllByRecursion, list_all, list_any}
use Rattle.std.specs.Ordering.{ordering_then}
use Rattle.std.proofs.lemmas.Bool.{eqb-true, or_parts}
use Rattle.std.proofs.lemmas.Cmp.{on_total, then_total, eq_by_cmp_equiv}
use Rattle.std.proofs.lemmas.List.Sums.{sum_by-cons}
use Rattle.std.proofs.lemmas.List.Sorted.{ranks_by, sum_by-IsPermutation}
use Rattle.sip_uri.specs.declared.headers.UriHeader.{UriHeader}
use Rattle.sip_uri.proofs.Tests.{and_both, and_is}
use Rattle.sip_uri_equality.specs.Equality.{is_same_header, stands_as_often, are_same_headers}
use Rattle.sip_uri_equality.specs.Order.{order_of_texts, order_of_headers, AreInOrder}
use Rattle.sip_uri_equality.proofs.Equal.{all_true}
use Rattle.sip_uri_equality.proofs.TextLaws.{order_is_total, tie_is_same}
use Rattle.sip_uri_equality.proofs.OrderLaws.{all_behind, all_behind_other}
use Rattle.sip_text.proofs.Differing.{alike}

-- ---- the order

pub headers_total : IsTotalOrder order_of_headers
headers_total = then_total (on_total (λ (h : UriHeader). h.name) order_is_total) (on_total (λ (h : UriHeader). h.value) order_is_total)

pub references_total : IsTotalOrder (λ (a : Bor UriHeader) (b : Bor UriHeader). order_of_headers a.now b.now)
references_total = on_total (λ (a : Bor UriHeader). a.now) headers_total

pub headers_rank : IsStrictWeakOrder (λ (a : Bor UriHeader) (b : Bor UriHeader). is_lt (order_of_headers a.now b.now))
headers_rank = ranks_by headers_total (λ (a : Bor UriHeader). a.now)

both_tie : (o p : Ordering) → is_eq (ordering_then o p) ≡ (is_eq o && is_eq p)
both_tie Less p = refl
both_tie Equal p = refl
both_tie Greater p = refl

header_tie : (h g : UriHeader) → is_eq (order_of_headers h g) ≡ is_same_header h g
header_tie h g = both_tie (order_of_texts h.name g.name) (order_of_texts h.value g.value) ∙ ap₂ (λ a b. a && b) (tie_is_same h.name g.name) (tie_is_same h.value g.value)

equivalence : IsEquivalence (λ (h : UriHeader) (g : UriHeader). is_eq (order_of_headers h g))
equivalence = eq_by_cmp_equiv headers_total

own : (h : UriHeader) → is_same_header h h ≡ true
own h = sym (header_tie h h) ∙ equivalence.refl h

swapped : (h g : UriHeader) → is_same_header h g ≡ is_same_header g h
swapped h g = sym (header_tie h g) ∙ equivalence.symm h g ∙ header_tie g h

congr : (h g x : UriHeader) → is_same_header h g ≡ true → is_same_header h x ≡ is_same_header g x
congr h g x e = sym (header_tie h x) ∙ equivalence.congr h g x (header_tie h g ∙ e) ∙ header_tie g x

congr_right : (h g x : UriHeader) → is_same_header h g ≡ true → is_same_header x h ≡ is_same_header x g
congr_right h g x e = swapped x h ∙ congr h g x e ∙ swapped g x

-- ---- how often a header stands

counted : (p : UriHeader → Bool) (h : UriHeader) (hs : List UriHeader) → count_by p (h ∷ hs) ≡ cond {A = ℕ} (p h) 1 0 + count_by p hs
counted p h hs = sum_by-cons (λ x. cond (p x) 1 0) h hs

count_alike : (p q : UriHeader → Bool) → ((x : UriHeader) → p x ≡ q x) → (hs : List UriHeader) → count_by p hs ≡ count_by q hs
count_alike p q same [] = refl
count_alike p q same (h ∷ hs) = counted p h hs ∙ ap₂ (λ (b : Bool) (n : ℕ). cond {A = ℕ} b 1 0 + n) (same h) (count_alike p q same hs) ∙ sym (counted q h hs)

count_none : (p : UriHeader → Bool) (hs : List UriHeader) → list_any p hs ≡ false → count_by p hs ≡ 0
count_none p [] e = refl
count_none p (h ∷ hs) e =
    let parts = or_parts (p h) (list_any p hs) e in
    counted p h hs ∙ ap₂ (λ (b : Bool) (n : ℕ). cond {A = ℕ} b 1 0 + n) parts.0 (count_none p hs parts.1)

-- each header stands as often in one list as in the other
abbrev StandAlike : List UriHeader → List UriHeader → Type 0
StandAlike hs gs = (x : UriHeader) → count_by (is_same_header x) hs ≡ count_by (is_same_header x) gs

-- one that passes two tests: where one holds of all and the other of some
record Witness (p q : UriHeader → Bool) : Type 0 where
  header : UriHeader
  first : p header ≡ true
  second : q header ≡ true

some_of : (p q : UriHeader → Bool) (hs : List UriHeader) → list_all p hs ≡ true → list_any q hs ≡ true → Witness p q
some_of p q [] e f = absurd cc
some_of p q (h ∷ hs) e f = by_first (q h) refl (λ k g. some_of p q hs k g)
  where
    both : (p h ≡ true) × (list_all p hs ≡ true)
    both = and_both (p h) (list_all p hs) e

    by_first : (b : Bool) → q h ≡ b → (list_all p hs ≡ true → list_any q hs ≡ true → Witness p q) → Witness p q
    by_first true is on = record { header = h; first = both.0; second = is }
    by_first false is on = on both.1 (sym (rw is refl) ∙ f)

by_witness : (hs gs : List UriHeader) (x : UriHeader) → Witness (stands_as_often hs gs) (is_same_header x)
    → count_by (is_same_header x) hs ≡ count_by (is_same_header x) gs
by_witness hs gs x w =
    let like : (ks : List UriHeader) → count_by (is_same_header x) ks ≡ count_by (is_same_header w.header) ks =
    λ ks. count_alike (is_same_header x) (is_same_header w.header) (λ y. congr x w.header y w.second) ks in
    like hs ∙ eqb-true (count_by (is_same_header w.header) hs) (count_by (is_same_header w.header) gs) w.first ∙ sym (like gs)

stand_alike : (hs gs : List UriHeader) → are_same_headers hs gs ≡ true → StandAlike hs gs
stand_alike hs gs e x = by_left (list_any (is_same_header x) hs) (list_any (is_same_header x) gs) refl refl
  where
    both : (list_all (stands_as_often hs gs) hs ≡ true) × (list_all (stands_as_often hs gs) gs ≡ true)
    both = and_both (list_all (stands_as_often hs gs) hs) (list_all (stands_as_often hs gs) gs) e

    by_left : (a b : Bool) → list_any (is_same_header x) hs ≡ a → list_any (is_same_header x) gs ≡ b → count_by (is_same_header x) hs ≡ count_by (is_same_header x) gs
    by_left true b p q = by_witness hs gs x (some_of (stands_as_often hs gs) (is_same_header x) hs both.0 p)
    by_left false true p q = by_witness hs gs x (some_of (stands_as_often hs gs) (is_same_header x) gs both.1 q)
    by_left false false p q = count_none (is_same_header x) hs p ∙ sym (count_none (is_same_header x) gs q)

same_from_alike : (hs gs : List UriHeader) → StandAlike hs gs → are_same_headers hs gs ≡ true
same_from_alike hs gs alike_counts =
    let each : (x : UriHeader) → stands_as_often hs gs x ≡ true = λ x. eq-eqb (count_by (is_same_header x) hs) (count_by (is_same_header x) gs) (alike_counts x) in
    and_is _ _ (all_true (stands_as_often hs gs) each hs) (all_true (stands_as_often hs gs) each gs)

count_moved : (x : UriHeader) (hs gs : List UriHeader) → IsPermutation hs gs → count_by (is_same_header x) gs ≡ count_by (is_same_header x) hs
count_moved x hs gs moved = sum_by-IsPermutation (λ h. cond (is_same_header x h) 1 0) hs gs moved

-- ---- lists in order

none_here : (x : UriHeader) (hs : List UriHeader) → AllByRecursion (λ h. order_of_headers x h ≡ Less) hs → count_by (is_same_header x) hs ≡ 0
none_here x [] all = refl
none_here x (h ∷ hs) all = counted (is_same_header x) h hs ∙ ap₂ (λ (b : Bool) (n : ℕ). cond {A = ℕ} b 1 0 + n) (sym (header_tie x h) ∙ ap is_eq all.0)
    (none_here x hs all.1)

alike_from_pairs : (hs gs : List UriHeader) → pointwise is_same_header hs gs ≡ true → StandAlike hs gs
alike_from_pairs [] [] e x = refl
alike_from_pairs [] (g ∷ gs) e x = absurd cc
alike_from_pairs (h ∷ hs) [] e x = absurd cc
alike_from_pairs (h ∷ hs) (g ∷ gs) e x =
    let both = and_both (is_same_header h g) (pointwise is_same_header hs gs) e in
    counted (is_same_header x) h hs ∙ ap₂ (λ (b : Bool) (n : ℕ). cond {A = ℕ} b 1 0 + n) (congr_right h g x both.0) (alike_from_pairs hs gs both.1 x)
    ∙ sym (counted (is_same_header x) g gs)

one_more : (x h : UriHeader) (hs : List UriHeader) → is_same_header x h ≡ true → count_by (is_same_header x) (h ∷ hs) ≡ 1 + count_by (is_same_header x) hs
one_more x h hs e = counted (is_same_header x) h hs ∙ ap (λ (b : Bool). cond {A = ℕ} b 1 0 + count_by (is_same_header x) hs) e

no_more : (x h : UriHeader) (hs : List UriHeader) → is_same_header x h ≡ false → count_by (is_same_header x) (h ∷ hs) ≡ 0 + count_by (is_same_header x) hs
no_more x h hs e = counted (is_same_header x) h hs ∙ ap (λ (b : Bool). cond {A = ℕ} b 1 0 + count_by (is_same_header x) hs) e

pairs_from_alike : (hs gs : List UriHeader) → AreInOrder order_of_headers hs → AreInOrder order_of_headers gs → StandAlike hs gs → pointwise is_same_header hs gs ≡ true
pairs_from_alike [] [] up down counts = refl
pairs_from_alike [] (g ∷ gs) up down counts = let never : ⊥ = omega (arith, counts g, one_more g g gs (own g)) in absurd never
pairs_from_alike (h ∷ hs) [] up down counts = let never : ⊥ = omega (arith, counts h, one_more h h hs (own h)) in absurd never
pairs_from_alike (h ∷ hs) (g ∷ gs) up down counts = by_order (order_of_headers h g) refl (λ rest. pairs_from_alike hs gs up.1 down.1 rest)
  where
    by_order : (o : Ordering) → order_of_headers h g ≡ o → (StandAlike hs gs → pointwise is_same_header hs gs ≡ true) → pointwise is_same_header (h ∷ hs) (g ∷ gs) ≡ true
    by_order Less is on =
        let none : count_by (is_same_header h) (g ∷ gs) ≡ 0 = none_here h (g ∷ gs) (all_behind headers_total h g gs is down) in
        let never : ⊥ = omega (arith, counts h, one_more h h hs (own h), none) in
        absurd never
    by_order Greater is on =
        let none : count_by (is_same_header g) (h ∷ hs) ≡ 0 = none_here g (h ∷ hs) (all_behind_other headers_total g h hs is up) in
        let never : ⊥ = omega (arith, counts g, one_more g g gs (own g), none) in
        absurd never
    by_order Equal is on =
        let here : is_same_header h g ≡ true = sym (header_tie h g) ∙ ap is_eq is in
        and_is _ _ here (on (λ x. fewer x (is_same_header x h) refl (sym (congr_right h g x here))))
      where
        fewer : (x : UriHeader) (b : Bool) → is_same_header x h ≡ b → is_same_header x g ≡ is_same_header x h
            → count_by (is_same_header x) hs ≡ count_by (is_same_header x) gs
        fewer x true p q = let e = one_more x h hs p in let f = one_more x g gs (q ∙ p) in omega (arith, counts x, e, f)
        fewer x false p q = let e = no_more x h hs p in let f = no_more x g gs (q ∙ p) in omega (arith, counts x, e, f)

-- ---- the whole

pub in_order_pairs : (hs gs ks ls : List UriHeader) → IsPermutation hs ks → IsPermutation gs ls → AreInOrder order_of_headers ks → AreInOrder order_of_headers ls
    → pointwise is_same_header ks ls ≡ are_same_headers hs gs
in_order_pairs hs gs ks ls left right up down =
    alike (pointwise is_same_header ks ls) (are_same_headers hs gs) (λ e. same_from_alike hs gs
    (λ x. sym (count_moved x hs ks left) ∙ alike_from_pairs ks ls e x ∙ count_moved x gs ls right))
    (λ e. pairs_from_alike ks ls up down (λ x. count_moved x hs ks left ∙ stand_alike hs gs e x ∙ sym (count_moved x gs ls right)))
