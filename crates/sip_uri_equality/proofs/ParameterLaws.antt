-- Parameters that both URIs have, or one alone.
use Rattle.std.proofs.Common.{◌≡◌, ℕ, Bool, true, false, List, [], ◌∷◌, Option, Some, None, Bor, Ordering, Less, Equal, Greater, IsPermutation, is_eq, is_gt, is_lt, refl}
use Rattle.std.proofs.Common.{sym, ap, ◌∙◌}
use Rattle.std.specs.Prelude.{◌&&◌, ◌||◌, not, codes}
use Rattle.std.specs.Cmp.{IsTotalOrder, IsStrictWeakOrder}
use Rattle.std.specs.List.{AllByRecursion, list_all, list_any}
use Rattle.std.proofs.lemmas.Bool.{or_right}
use Rattle.std.proofs.lemmas.Cmp.{on_total, eq_by_cmp_equiv}
use Rattle.std.proofs.lemmas.List.Sorted.{list_any-IsPermutation, ranks_by}
use Rattle.sip_uri.specs.declared.parameters.UriParameter.{UriParameter}
use Rattle.sip_uri_equality.specs.Equality.{says_same_no_case, both_or_none, agrees, is_never_ignored, is_answered, are_same_parameters}
use Rattle.sip_uri_equality.specs.Order.{order_of_texts, order_of_names, AreInOrder, begins_with}
use Rattle.sip_uri_equality.proofs.Equal.{part_sym, optional_sym, agrees_sym, parameters_sym, all_same, all_both, apart}
use Rattle.sip_uri_equality.proofs.TextLaws.{order_is_total, tie_is_same}
use Rattle.sip_uri_equality.proofs.OrderLaws.{all_in_any_order, all_behind, all_behind_other}

or_behind : (a b : Bool) → a ≡ true → b ≡ (not a || b)
or_behind a b e = rw e refl

-- a parameter that counts is answered where its name stands
pub counts : (others : List UriParameter) (p : UriParameter) (name : List ℕ) (r : Bool) → name ≡ p.name → is_never_ignored name ≡ true
    → r ≡ list_any (λ (q : UriParameter). says_same_no_case name q.name) others → r ≡ is_answered others p
counts others p name r e never is =
    is ∙ or_behind (is_never_ignored name) (list_any (λ (q : UriParameter). says_same_no_case name q.name) others) never
    ∙ ap (λ (n : List ℕ). not (is_never_ignored n) || list_any (λ (q : UriParameter). says_same_no_case n q.name) others) e

-- ---- texts that say the same

text_congr : (a b c : List ℕ) → says_same_no_case a b ≡ true → says_same_no_case a c ≡ says_same_no_case b c
text_congr a b c e = sym (tie_is_same a c) ∙ (eq_by_cmp_equiv order_is_total).congr a b c (tie_is_same a b ∙ e) ∙ tie_is_same b c

text_congr_right : (a b c : List ℕ) → says_same_no_case a b ≡ true → says_same_no_case c a ≡ says_same_no_case c b
text_congr_right a b c e = part_sym c a ∙ text_congr a b c e ∙ part_sym b c

value_congr : (a b c : Option (List ℕ)) → both_or_none says_same_no_case a b ≡ true → both_or_none says_same_no_case a c ≡ both_or_none says_same_no_case b c
value_congr None None c e = refl
value_congr None (Some b) c e = absurd cc
value_congr (Some a) None c e = absurd cc
value_congr (Some a) (Some b) None e = refl
value_congr (Some a) (Some b) (Some c) e = text_congr a b c e

any_same : {X : Type 0} (p q : X → Bool) → ((x : X) → p x ≡ q x) → (xs : List X) → list_any p xs ≡ list_any q xs
any_same p q same [] = refl
any_same p q same (x ∷ xs) = rw (same x, any_same p q same xs) refl

-- ---- in any order

right_in_any_order : (ps qs rs : List UriParameter) → IsPermutation qs rs → are_same_parameters ps qs ≡ are_same_parameters ps rs
right_in_any_order ps qs rs moved =
    let pairs : list_all (λ p. list_all (λ q. agrees p q) qs) ps ≡ list_all (λ p. list_all (λ q. agrees p q) rs) ps =
    all_same _ _ (λ p. all_in_any_order (λ q. agrees p q) qs rs moved) ps in
    let forth : list_all (is_answered qs) ps ≡ list_all (is_answered rs) ps =
    all_same _ _ (λ p. ap (λ (t : Bool). not (is_never_ignored p.name) || t) (list_any-IsPermutation (λ (q : UriParameter). says_same_no_case p.name q.name) qs rs moved))
    ps
    in
    let back : list_all (is_answered ps) qs ≡ list_all (is_answered ps) rs = all_in_any_order (is_answered ps) qs rs moved in
    rw (pairs, forth, back) refl

pub in_any_order : (ps qs rs ss : List UriParameter) → IsPermutation ps rs → IsPermutation qs ss → are_same_parameters rs ss ≡ are_same_parameters ps qs
in_any_order ps qs rs ss left right =
    sym (right_in_any_order rs qs ss right) ∙ parameters_sym rs qs ∙ sym (right_in_any_order qs ps rs left) ∙ parameters_sym qs ps

-- ---- a parameter whose name stands nowhere else

-- its name stands nowhere among others
abbrev pub IsApart : UriParameter → List UriParameter → Type 0
IsApart p qs = list_any (λ (q : UriParameter). says_same_no_case p.name q.name) qs ≡ false

or_left_false : (a b : Bool) → (a || b) ≡ false → (a ≡ false) × (b ≡ false)
or_left_false true b e = absurd cc
or_left_false false b e = (refl, e)

or_none : (a b : Bool) → b ≡ false → (a || b) ≡ a
or_none true b e = refl
or_none false b e = e

answered_past : (p : UriParameter) (ps qs : List UriParameter) → IsApart p qs → list_all (is_answered (p ∷ ps)) qs ≡ list_all (is_answered ps) qs
answered_past p ps [] none = refl
answered_past p ps (q ∷ qs) none =
    let parts = or_left_false (says_same_no_case p.name q.name) (list_any (λ (q : UriParameter). says_same_no_case p.name q.name) qs) none in
    rw (part_sym q.name p.name, parts.0, answered_past p ps qs parts.1) refl

shuffle : (x n y z : Bool) → (x && ((n && y) && z)) ≡ (n && (x && (y && z)))
shuffle true n true z = by_first n
  where
    by_first : (n : Bool) → ((n && true) && z) ≡ (n && z)
    by_first true = refl
    by_first false = refl
shuffle true n false z = by_first n
  where
    by_first : (n : Bool) → ((n && false) && z) ≡ (n && false)
    by_first true = refl
    by_first false = refl
shuffle false n y z = by_first n
  where
    by_first : (n : Bool) → false ≡ (n && false)
    by_first true = refl
    by_first false = refl

pub skips : (p : UriParameter) (ps qs : List UriParameter) → IsApart p qs → are_same_parameters (p ∷ ps) qs ≡ (not (is_never_ignored p.name) && are_same_parameters ps qs)
skips p ps qs none =
    let row : list_all (λ q. agrees p q) qs ≡ true = apart p qs none in
    let here : is_answered qs p ≡ not (is_never_ignored p.name) = or_none (not (is_never_ignored p.name))
    (list_any (λ (q : UriParameter). says_same_no_case p.name q.name) qs) none in
    rw (row, here, answered_past p ps qs none) (shuffle (list_all (λ p. list_all (λ q. agrees p q) qs) ps) (not (is_never_ignored p.name)) (list_all (is_answered qs) ps)
    (list_all (is_answered ps) qs))

-- ---- two of one name and value, and no other of that name

column : (q : UriParameter) (ps : List UriParameter) → IsApart q ps → list_all (λ p. agrees p q) ps ≡ true
column q ps none = all_same _ _ (λ p. agrees_sym p q) ps ∙ apart q ps none

pub both_go : (p q : UriParameter) (ps qs : List UriParameter) → says_same_no_case p.name q.name ≡ true → both_or_none says_same_no_case p.value q.value ≡ true
    → IsApart p qs
    → IsApart q ps → are_same_parameters (p ∷ ps) (q ∷ qs) ≡ are_same_parameters ps qs
both_go p q ps qs name value none_right none_left =
    let agree : agrees p q ≡ true = rw (name, value) refl in
    let row : list_all (λ q. agrees p q) qs ≡ true = apart p qs none_right in
    let rest : list_all (λ x. agrees x q && list_all (λ y. agrees x y) qs) ps ≡ list_all (λ x. list_all (λ y. agrees x y) qs) ps =
    all_both (λ x. agrees x q) (λ x. list_all (λ y. agrees x y) qs) ps ∙ rw (column q ps none_left) refl in
    let forth : is_answered (q ∷ qs) p ≡ true = or_right (not (is_never_ignored p.name)) _ (rw name refl) in
    let back : is_answered (p ∷ ps) q ≡ true = or_right (not (is_never_ignored q.name)) _ (rw (part_sym q.name p.name, name) refl) in
    rw (agree, row, rest, forth, back, answered_past q qs ps none_left, answered_past p ps qs none_right) refl

-- ---- two of one name in one list

never_congr : (a b : List ℕ) → says_same_no_case a b ≡ true → is_never_ignored a ≡ is_never_ignored b
never_congr a b e = any_same _ _ (λ known. text_congr a b known e) (codes "user" ∷ codes "ttl" ∷ codes "method" ∷ codes "maddr" ∷ codes "transport" ∷ [])

agrees_congr : (p o x : UriParameter) → says_same_no_case p.name o.name ≡ true → both_or_none says_same_no_case p.value o.value ≡ true → agrees p x ≡ agrees o x
agrees_congr p o x name value = rw (text_congr p.name o.name x.name name, value_congr p.value o.value x.value value) refl

twice : (r t a b c d : Bool) → c ≡ d → ((r && (r && t)) && ((a && (a && b)) && c)) ≡ ((r && t) && ((a && b) && d))
twice true t true b c d e = ap (λ (z : Bool). t && (b && z)) e
twice true t false b c d e = refl
twice false t a b c d e = refl

or_again : (t r n : Bool) → (n || (t || (t || r))) ≡ (n || (t || r))
or_again true r n = refl
or_again false r n = refl

-- one like the next says nothing more
doubled : (p o : UriParameter) (ps qs : List UriParameter) → says_same_no_case p.name o.name ≡ true → both_or_none says_same_no_case p.value o.value ≡ true
    → are_same_parameters (p ∷ o ∷ ps) qs ≡ are_same_parameters (o ∷ ps) qs
doubled p o ps qs name value =
    let row : list_all (λ q. agrees p q) qs ≡ list_all (λ q. agrees o q) qs = all_same _ _ (λ q. agrees_congr p o q name value) qs in
    let names : list_any (λ (q : UriParameter). says_same_no_case p.name q.name) qs ≡ list_any (λ (q : UriParameter). says_same_no_case o.name q.name) qs =
    any_same _ _ (λ (q : UriParameter). text_congr p.name o.name q.name name) qs in
    let here : is_answered qs p ≡ is_answered qs o = rw (never_congr p.name o.name name, names) refl in
    let back : list_all (is_answered (p ∷ o ∷ ps)) qs ≡ list_all (is_answered (o ∷ ps)) qs =
    all_same _ _ (λ (q : UriParameter). rw (text_congr_right p.name o.name q.name name) (or_again (says_same_no_case q.name o.name)
    (list_any (λ (r : UriParameter). says_same_no_case q.name r.name) ps) (not (is_never_ignored q.name)))) qs in
    rw (row, here) (twice (list_all (λ q. agrees o q) qs) (list_all (λ p. list_all (λ q. agrees p q) qs) ps) (is_answered qs o) (list_all (is_answered qs) ps)
    (list_all (is_answered (p ∷ o ∷ ps)) qs) (list_all (is_answered (o ∷ ps)) qs) back)

and_false : (a : Bool) → (a && false) ≡ false
and_false true = refl
and_false false = refl

-- one that differs from its like refuses the whole
refused : (p q : UriParameter) (ps qs : List UriParameter) → says_same_no_case p.name q.name ≡ true → both_or_none says_same_no_case p.value q.value ≡ false
    → are_same_parameters (p ∷ ps) (q ∷ qs) ≡ false
refused p q ps qs name value = rw (name, value) refl

refused_later : (p o q : UriParameter) (ps qs : List UriParameter) → says_same_no_case o.name q.name ≡ true → both_or_none says_same_no_case o.value q.value ≡ false
    → are_same_parameters (p ∷ o ∷ ps) (q ∷ qs) ≡ false
refused_later p o q ps qs name value = rw (name, value, and_false (agrees p q && list_all (λ x. agrees p x) qs)) refl

left_goes : (p o q : UriParameter) (ps qs : List UriParameter) → says_same_no_case p.name q.name ≡ true → both_or_none says_same_no_case p.value q.value ≡ true
    → says_same_no_case p.name o.name ≡ true → are_same_parameters (p ∷ o ∷ ps) (q ∷ qs) ≡ are_same_parameters (o ∷ ps) (q ∷ qs)
left_goes p o q ps qs name value next = by_value (both_or_none says_same_no_case o.value q.value) refl
  where
    same_name : says_same_no_case o.name q.name ≡ true
    same_name = sym (text_congr p.name o.name q.name next) ∙ name

    by_value : (t : Bool) → both_or_none says_same_no_case o.value q.value ≡ t → are_same_parameters (p ∷ o ∷ ps) (q ∷ qs) ≡ are_same_parameters (o ∷ ps) (q ∷ qs)
    by_value true is =
        let like : both_or_none says_same_no_case p.value o.value ≡ true = value_congr p.value q.value o.value value
        ∙ optional_sym says_same_no_case part_sym q.value o.value ∙ is in
        doubled p o ps (q ∷ qs) next like
    by_value false is = refused_later p o q ps qs same_name is ∙ sym (refused o q ps qs same_name is)

-- ---- in order

pub names_total : IsTotalOrder order_of_names
names_total = on_total (λ (p : UriParameter). p.name) order_is_total

none_named : (p : UriParameter) (qs : List UriParameter) → AllByRecursion (λ q. order_of_names p q ≡ Less) qs → IsApart p qs
none_named p [] all = refl
none_named p (q ∷ qs) all = rw (sym (tie_is_same p.name q.name) ∙ ap is_eq all.0) (none_named p qs all.1)

-- a name in front of the first stands nowhere
in_front : (p q : UriParameter) (qs : List UriParameter) → order_of_names p q ≡ Less → AreInOrder order_of_names (q ∷ qs) → IsApart p (q ∷ qs)
in_front p q qs e up = none_named p (q ∷ qs) (all_behind names_total p q qs e up)

only_less : (o : Ordering) → is_gt o ≡ false → is_eq o ≡ false → o ≡ Less
only_less Less e f = refl
only_less Equal e f = absurd cc
only_less Greater e f = absurd cc

-- where the next has another name, no other has it
none_more : (p : UriParameter) (ps : List UriParameter) → AreInOrder order_of_names (p ∷ ps) → begins_with p.name ps ≡ false → IsApart p ps
none_more p [] up other = refl
none_more p (o ∷ ps) up other = in_front p o ps (only_less (order_of_names p o) up.0.0 (tie_is_same p.name o.name ∙ other)) up.1

apart_from_like : (p q : UriParameter) (rs : List UriParameter) → says_same_no_case p.name q.name ≡ true → IsApart p rs → IsApart q rs
apart_from_like p q rs name none = sym (any_same _ _ (λ (r : UriParameter). text_congr p.name q.name r.name name) rs) ∙ none

-- ---- the walk's steps

module _ (p q : UriParameter) (ps qs : List UriParameter) where
  abbrev Same : List UriParameter → List UriParameter → Type 0
  Same rs ss = are_same_parameters (p ∷ ps) (q ∷ qs) ≡ are_same_parameters rs ss

  pub less_counts : (n m : List ℕ) → n ≡ p.name → m ≡ q.name → Less ≡ order_of_texts n m → is_never_ignored n ≡ true → AreInOrder order_of_names (q ∷ qs)
      → are_same_parameters (p ∷ ps) (q ∷ qs) ≡ false
  less_counts n m en em e never up =
      let less : order_of_names p q ≡ Less = sym (e ∙ ap (λ (a : List ℕ). order_of_texts a m) en ∙ ap (order_of_texts p.name) em) in
      skips p ps (q ∷ qs) (in_front p q qs less up) ∙ rw (ap is_never_ignored (sym en) ∙ never) refl

  pub less_goes : (n m : List ℕ) → n ≡ p.name → m ≡ q.name → Less ≡ order_of_texts n m → is_never_ignored n ≡ false → AreInOrder order_of_names (q ∷ qs)
      → Same ps (q ∷ qs)
  less_goes n m en em e never up =
      let less : order_of_names p q ≡ Less = sym (e ∙ ap (λ (a : List ℕ). order_of_texts a m) en ∙ ap (order_of_texts p.name) em) in
      skips p ps (q ∷ qs) (in_front p q qs less up) ∙ rw (ap is_never_ignored (sym en) ∙ never) refl

  pub greater_counts : (n m : List ℕ) → n ≡ p.name → m ≡ q.name → Greater ≡ order_of_texts n m → is_never_ignored m ≡ true → AreInOrder order_of_names (p ∷ ps)
      → are_same_parameters (p ∷ ps) (q ∷ qs) ≡ false
  greater_counts n m en em e never up =
      let greater : order_of_names p q ≡ Greater = sym (e ∙ ap (λ (a : List ℕ). order_of_texts a m) en ∙ ap (order_of_texts p.name) em) in
      parameters_sym (p ∷ ps) (q ∷ qs) ∙ skips q qs (p ∷ ps) (none_named q (p ∷ ps) (all_behind_other names_total q p ps greater up))
      ∙ rw (ap is_never_ignored (sym em) ∙ never) refl

  pub greater_goes : (n m : List ℕ) → n ≡ p.name → m ≡ q.name → Greater ≡ order_of_texts n m → is_never_ignored m ≡ false → AreInOrder order_of_names (p ∷ ps)
      → Same (p ∷ ps) qs
  greater_goes n m en em e never up =
      let greater : order_of_names p q ≡ Greater = sym (e ∙ ap (λ (a : List ℕ). order_of_texts a m) en ∙ ap (order_of_texts p.name) em) in
      parameters_sym (p ∷ ps) (q ∷ qs) ∙ skips q qs (p ∷ ps) (none_named q (p ∷ ps) (all_behind_other names_total q p ps greater up))
      ∙ rw (ap is_never_ignored (sym em) ∙ never) (parameters_sym qs (p ∷ ps))

  pub same_name : (n m : List ℕ) → n ≡ p.name → m ≡ q.name → Equal ≡ order_of_texts n m → says_same_no_case p.name q.name ≡ true
  same_name n m en em e = sym (tie_is_same p.name q.name) ∙ ap is_eq (sym (e ∙ ap (λ (a : List ℕ). order_of_texts a m) en ∙ ap (order_of_texts p.name) em))

  pub values_differ : says_same_no_case p.name q.name ≡ true → both_or_none says_same_no_case p.value q.value ≡ false → are_same_parameters (p ∷ ps) (q ∷ qs) ≡ false
  values_differ = refused p q ps qs

  module _ (name : says_same_no_case p.name q.name ≡ true) (value : both_or_none says_same_no_case p.value q.value ≡ true) where
    pub goes_left : begins_with p.name ps ≡ true → Same ps (q ∷ qs)
    goes_left more = by_next ps more
      where
        by_next : (os : List UriParameter) → begins_with p.name os ≡ true → are_same_parameters (p ∷ os) (q ∷ qs) ≡ are_same_parameters os (q ∷ qs)
        by_next [] more = absurd cc
        by_next (o ∷ os) more = left_goes p o q os qs name value more

    pub goes_right : begins_with q.name qs ≡ true → Same (p ∷ ps) qs
    goes_right more = parameters_sym (p ∷ ps) (q ∷ qs) ∙ by_next qs more ∙ parameters_sym qs (p ∷ ps)
      where
        by_next : (os : List UriParameter) → begins_with q.name os ≡ true → are_same_parameters (q ∷ os) (p ∷ ps) ≡ are_same_parameters os (p ∷ ps)
        by_next [] more = absurd cc
        by_next (o ∷ os) more = left_goes q o p os ps (part_sym q.name p.name ∙ name) (optional_sym says_same_no_case part_sym q.value p.value ∙ value) more

    pub goes_both : AreInOrder order_of_names (p ∷ ps) → AreInOrder order_of_names (q ∷ qs) → begins_with p.name ps ≡ false → begins_with q.name qs ≡ false → Same ps qs
    goes_both left right no_left no_right =
        both_go p q ps qs name value (apart_from_like q p qs (part_sym q.name p.name ∙ name) (none_more q qs right no_right))
        (apart_from_like p q ps name (none_more p ps left no_left))

-- ---- where one list ends

none_answer : (qs : List UriParameter) → list_all (is_answered []) qs ≡ list_all (λ q. not (is_never_ignored q.name)) qs
none_answer qs = all_same _ _ (λ (q : UriParameter). or_none (not (is_never_ignored q.name)) false refl) qs

pub left_ends : (qs : List UriParameter) → are_same_parameters [] qs ≡ list_all (λ q. not (is_never_ignored q.name)) qs
left_ends qs = none_answer qs

pub right_ends : (ps : List UriParameter) → are_same_parameters ps [] ≡ list_all (λ p. not (is_never_ignored p.name)) ps
right_ends ps = parameters_sym ps [] ∙ left_ends ps

-- ---- behind references

pub references_total : IsTotalOrder (λ (a : Bor UriParameter) (b : Bor UriParameter). order_of_names a.now b.now)
references_total = on_total (λ (a : Bor UriParameter). a.now) names_total

pub names_rank : IsStrictWeakOrder (λ (a : Bor UriParameter) (b : Bor UriParameter). is_lt (order_of_names a.now b.now))
names_rank = ranks_by names_total (λ (a : Bor UriParameter). a.now)
