-- An item of a list is a list of that one item.
use Rattle.std.proofs.Common.{◌≡◌, ℕ, Bool, true, false, cond, List, [], ◌∷◌, ◌++◌, Option, Some, None, refl, sym, ap, subst, ◌∙◌, arith, inl, inr, ◌⊎◌}
use Rattle.std.specs.Prelude.{option_map, ◌&&◌}
use Rattle.std.specs.Option.{option_and_then}
use Rattle.std.specs.List.{AllByRecursion, list_all}
use Rattle.std.proofs.lemmas.List.Folds.{list_all-append}
use Rattle.sip_text.specs.declared.lists.ListState.{ListState}
use Rattle.sip_text.specs.declared.lists.ListState.TheVariants.{Outside, Quoted, Escaped, Bracketed}
use Rattle.sip_text.specs.Lists.{is_blank, trimmed, place_after, is_cut, onto, between_cuts, is_nil, all_trimmed, cut}
use Rattle.sip_text.proofs.Trims.{Blanks, IsTight, IsSplit, split_of, core_is, tight_of, tight_again}

-- no cut in it from a place on, and it ends outside
abbrev pub IsOne : ListState → List ℕ → Type 0
IsOne place item = between_cuts place item ≡ Some (item ∷ [])

-- the first from a place on, the others from outside
abbrev pub AreOnes : ListState → List (List ℕ) → Type 0
AreOnes place [] = ⊥
AreOnes place (first ∷ others) = IsOne place first × AllByRecursion (IsOne Outside) others

pub at_cut : (place : ListState) (b : ℕ) → is_cut place b ≡ true → place ≡ Outside
at_cut Outside b is = refl
at_cut Quoted b is = absurd cc
at_cut Escaped b is = absurd cc
at_cut Bracketed b is = absurd cc

ones_cut : (place : ListState) (o : Option (List (List ℕ))) (items : List (List ℕ)) → place ≡ Outside → option_map (λ items. [] ∷ items) o ≡ Some items
    → ((rest : List (List ℕ)) → o ≡ Some rest → AreOnes Outside rest) → AreOnes place items
ones_cut place None items out e rest_are = absurd cc
ones_cut place (Some []) items out e rest_are = absurd (rest_are [] refl)
ones_cut place (Some (first ∷ others)) items out e rest_are =
    let is : [] ∷ first ∷ others ≡ items = cc in
    let r = rest_are (first ∷ others) refl in
    subst (AreOnes place) is (rw out refl, r)

ones_on : (place : ListState) (b : ℕ) (o : Option (List (List ℕ))) (items : List (List ℕ)) → is_cut place b ≡ false
    → option_map (λ items. onto (b ∷ []) items) o ≡ Some items
    → ((rest : List (List ℕ)) → o ≡ Some rest → AreOnes (place_after place b) rest) → AreOnes place items
ones_on place b None items not_cut e rest_are = absurd cc
ones_on place b (Some []) items not_cut e rest_are = absurd (rest_are [] refl)
ones_on place b (Some (first ∷ others)) items not_cut e rest_are =
    let is : (b ∷ first) ∷ others ≡ items = cc in
    let r = rest_are (first ∷ others) refl in
    let one : between_cuts place (b ∷ first) ≡ Some ((b ∷ first) ∷ []) = rw (not_cut, r.0) refl in
    subst (AreOnes place) is (one, r.1)

are_ones_nil : (place : ListState) (items : List (List ℕ)) → between_cuts place [] ≡ Some items → AreOnes place items
are_ones_nil Outside items e =
    let is : [] ∷ [] ≡ items = cc in
    subst (AreOnes Outside) is (refl, tt)
are_ones_nil Quoted items e = absurd cc
are_ones_nil Escaped items e = absurd cc
are_ones_nil Bracketed items e = absurd cc

either : (place : ListState) (b : ℕ) (bs : List ℕ) (items : List (List ℕ)) (t : Bool) → is_cut place b ≡ t → between_cuts place (b ∷ bs) ≡ Some items
    → ((rest : List (List ℕ)) → between_cuts Outside bs ≡ Some rest → AreOnes Outside rest)
    → ((rest : List (List ℕ)) → between_cuts (place_after place b) bs ≡ Some rest → AreOnes (place_after place b) rest) → AreOnes place items
either place b bs items true is e out on =
    let one : between_cuts place (b ∷ bs) ≡ option_map (λ items. [] ∷ items) (between_cuts Outside bs) = rw is refl in
    ones_cut place (between_cuts Outside bs) items (at_cut place b is) (sym one ∙ e) out
either place b bs items false is e out on =
    let one : between_cuts place (b ∷ bs) ≡ option_map (λ items. onto (b ∷ []) items) (between_cuts (place_after place b) bs) = rw is refl in
    ones_on place b (between_cuts (place_after place b) bs) items is (sym one ∙ e) on

pub are_ones : (place : ListState) (text : List ℕ) (items : List (List ℕ)) → between_cuts place text ≡ Some items → AreOnes place items
are_ones place [] items e = are_ones_nil place items e
are_ones place (b ∷ bs) items e = either place b bs items (is_cut place b) refl e (λ rest h. are_ones Outside bs rest h)
    (λ rest h. are_ones (place_after place b) bs rest h)

-- ---- without blanks

is_32_or_9 : (b : ℕ) → is_blank b ≡ true → (b ≡ 32) ⊎ (b ≡ 9)
is_32_or_9 b e = grind arith

blank_not_cut : (place : ListState) (b : ℕ) → is_blank b ≡ true → is_cut place b ≡ false
blank_not_cut place b e = elim (is_32_or_9 b e) [ inl s ↦ rw s (at_32 place) | inr t ↦ rw t (at_9 place) ]
  where
    at_32 : (place : ListState) → is_cut place 32 ≡ false
    at_32 Outside = refl
    at_32 Quoted = refl
    at_32 Escaped = refl
    at_32 Bracketed = refl

    at_9 : (place : ListState) → is_cut place 9 ≡ false
    at_9 Outside = refl
    at_9 Quoted = refl
    at_9 Escaped = refl
    at_9 Bracketed = refl

-- a blank leaves outside what was outside, and nothing else
blank_outside : (b : ℕ) → is_blank b ≡ true → place_after Outside b ≡ Outside
blank_outside b e = elim (is_32_or_9 b e) [ inl s ↦ rw s refl | inr t ↦ rw t refl ]

blank_inside : (place : ListState) (b : ℕ) → is_blank b ≡ true → place_after place b ≡ Outside → place ≡ Outside
blank_inside Outside b e h = refl
blank_inside Quoted b e h = elim (is_32_or_9 b e) [
  | inl s ↦ absurd (quoted_32 (ap (place_after Quoted) (sym s) ∙ h))
  | inr t ↦ absurd
      (quoted_9 (ap (place_after Quoted) (sym t) ∙ h))
]
  where
    quoted_32 : place_after Quoted 32 ≡ Outside → ⊥
    quoted_32 h = cc

    quoted_9 : place_after Quoted 9 ≡ Outside → ⊥
    quoted_9 h = cc
blank_inside Escaped b e h = absurd cc
blank_inside Bracketed b e h = elim (is_32_or_9 b e) [
  | inl s ↦ absurd (bracketed_32 (ap (place_after Bracketed) (sym s) ∙ h))
  | inr t ↦ absurd
      (bracketed_9 (ap (place_after Bracketed) (sym t) ∙ h))
]
  where
    bracketed_32 : place_after Bracketed 32 ≡ Outside → ⊥
    bracketed_32 h = cc

    bracketed_9 : place_after Bracketed 9 ≡ Outside → ⊥
    bracketed_9 h = cc

one_tail : (b : ℕ) (bs : List ℕ) (o : Option (List (List ℕ))) → option_map (λ items. onto (b ∷ []) items) o ≡ Some ((b ∷ bs) ∷ []) → o ≡ Some (bs ∷ [])
one_tail b bs None e = absurd cc
one_tail b bs (Some []) e = absurd cc
one_tail b bs (Some (x ∷ xs)) e =
    let first : x ≡ bs = cc in
    let others : xs ≡ [] = cc in
    rw (first, others) refl

-- what is one item goes on as one item
pub one_rest : (place : ListState) (b : ℕ) (bs : List ℕ) → is_cut place b ≡ false → IsOne place (b ∷ bs) → IsOne (place_after place b) bs
one_rest place b bs not_cut e =
    let one : between_cuts place (b ∷ bs) ≡ option_map (λ items. onto (b ∷ []) items) (between_cuts (place_after place b) bs) = rw not_cut refl in
    one_tail b bs (between_cuts (place_after place b) bs) (sym one ∙ e)

pub one_more : (place : ListState) (b : ℕ) (bs : List ℕ) → is_cut place b ≡ false → IsOne (place_after place b) bs → IsOne place (b ∷ bs)
one_more place b bs not_cut e = rw (not_cut, e) refl

pub one_nil : (place : ListState) → IsOne place [] → place ≡ Outside
one_nil Outside e = refl
one_nil Quoted e = absurd cc
one_nil Escaped e = absurd cc
one_nil Bracketed e = absurd cc

one_blanks : (place : ListState) (bs : List ℕ) → Blanks bs → IsOne place bs → place ≡ Outside
one_blanks place [] h e = one_nil place e
one_blanks place (b ∷ bs) h e = blank_inside place b h.0 (one_blanks (place_after place b) bs h.1 (one_rest place b bs (blank_not_cut place b h.0) e))

pub not_cut_one : (place : ListState) (b : ℕ) (bs : List ℕ) (t : Bool) → is_cut place b ≡ t → IsOne place (b ∷ bs) → is_cut place b ≡ false
not_cut_one place b bs false is e = is
not_cut_one place b bs true is e =
    let one : between_cuts place (b ∷ bs) ≡ option_map (λ items. [] ∷ items) (between_cuts Outside bs) = rw is refl in
    absurd (never (between_cuts Outside bs) (sym one ∙ e))
  where
    never : (o : Option (List (List ℕ))) → option_map (λ items. [] ∷ items) o ≡ Some ((b ∷ bs) ∷ []) → ⊥
    never None e' = cc
    never (Some items) e' = cc

one_front : (place : ListState) (cs bs : List ℕ) → Blanks bs → IsOne place (cs ++ bs) → IsOne place cs
one_front place [] bs h e = rw (one_blanks place bs h e) refl
one_front place (c ∷ cs) bs h e =
    let not_cut : is_cut place c ≡ false = not_cut_one place c (cs ++ bs) (is_cut place c) refl e in
    one_more place c cs not_cut (one_front (place_after place c) cs bs h (one_rest place c (cs ++ bs) not_cut e))

one_behind : (us cs : List ℕ) → Blanks us → IsOne Outside (us ++ cs) → IsOne Outside cs
one_behind [] cs h e = e
one_behind (a ∷ us) cs h e = one_behind us cs h.1 (subst (λ (p : ListState). IsOne p (us ++ cs)) (blank_outside a h.0)
    (one_rest Outside a (us ++ cs) (blank_not_cut Outside a h.0) e))

pub one_trimmed : (item : List ℕ) → IsOne Outside item → IsOne Outside (trimmed item)
one_trimmed item e =
    let s : IsSplit item = split_of item in
    let whole : IsOne Outside ((s.before ++ s.core) ++ s.behind) = subst (IsOne Outside) s.whole e in
    subst (IsOne Outside) (sym (core_is item s)) (one_behind s.before s.core s.blanks_before (one_front Outside (s.before ++ s.core) s.behind s.blanks_behind whole))

-- ---- the items of a list

cut_one : (item : List ℕ) → IsOne Outside item → IsTight item → is_nil item ≡ false → cut item ≡ Some (item ∷ [])
cut_one item one tight full =
    let again : trimmed item ≡ item = tight_again item tight in
    let full_again : is_nil (trimmed item) ≡ false = ap is_nil again ∙ full in
    ap (option_and_then all_trimmed) one ∙ rw full_again (ap (λ (w : List ℕ). Some (w ∷ [])) again)

ones : (items : List (List ℕ)) → AreOnes Outside items → AllByRecursion (IsOne Outside) items
ones [] h = absurd h
ones (item ∷ items) h = h

-- ---- what holds of each byte of a list holds of each byte of its items

-- each item has only bytes that pass
abbrev pub Pass : (ℕ → Bool) → List (List ℕ) → Type 0
Pass p items = AllByRecursion (λ item. list_all p item ≡ true) items

and_both : (a b : Bool) → (a && b) ≡ true → (a ≡ true) × (b ≡ true)
and_both true b e = (refl, e)
and_both false b e = absurd cc

and_is : (a b : Bool) → a ≡ true → b ≡ true → (a && b) ≡ true
and_is a b e f = rw (e, f) refl

pass_cut : (p : ℕ → Bool) (o : Option (List (List ℕ))) (items : List (List ℕ)) → option_map (λ items. [] ∷ items) o ≡ Some items
    → ((rest : List (List ℕ)) → o ≡ Some rest → Pass p rest) → Pass p items
pass_cut p None items e are = absurd cc
pass_cut p (Some rest) items e are =
    let same : [] ∷ rest ≡ items = cc in
    subst (Pass p) same (refl, are rest refl)

pass_onto : (p : ℕ → Bool) (b : ℕ) (rest : List (List ℕ)) → p b ≡ true → Pass p rest → Pass p (onto (b ∷ []) rest)
pass_onto p b [] e are = tt
pass_onto p b (item ∷ rest) e are = (and_is (p b) (list_all p item) e are.0, are.1)

pass_on : (p : ℕ → Bool) (b : ℕ) (o : Option (List (List ℕ))) (items : List (List ℕ)) → p b ≡ true → option_map (λ items. onto (b ∷ []) items) o ≡ Some items
    → ((rest : List (List ℕ)) → o ≡ Some rest → Pass p rest) → Pass p items
pass_on p b None items h e are = absurd cc
pass_on p b (Some rest) items h e are =
    let same : onto (b ∷ []) rest ≡ items = cc in
    subst (Pass p) same (pass_onto p b rest h (are rest refl))

pass_either : (p : ℕ → Bool) (place : ListState) (b : ℕ) (bs : List ℕ) (items : List (List ℕ)) (t : Bool) → is_cut place b ≡ t → p b ≡ true
    → between_cuts place (b ∷ bs) ≡ Some items
    → ((place : ListState) (rest : List (List ℕ)) → between_cuts place bs ≡ Some rest → Pass p rest) → Pass p items
pass_either p place b bs items true is h e are =
    let one : between_cuts place (b ∷ bs) ≡ option_map (λ items. [] ∷ items) (between_cuts Outside bs) = rw is refl in
    pass_cut p (between_cuts Outside bs) items (sym one ∙ e) (are Outside)
pass_either p place b bs items false is h e are =
    let one : between_cuts place (b ∷ bs) ≡ option_map (λ items. onto (b ∷ []) items) (between_cuts (place_after place b) bs) = rw is refl in
    pass_on p b (between_cuts (place_after place b) bs) items h (sym one ∙ e) (are (place_after place b))

pass_nil : (p : ℕ → Bool) (place : ListState) (items : List (List ℕ)) → between_cuts place [] ≡ Some items → Pass p items
pass_nil p Outside items e =
    let same : [] ∷ [] ≡ items = cc in
    subst (Pass p) same (refl, tt)
pass_nil p Quoted items e = absurd cc
pass_nil p Escaped items e = absurd cc
pass_nil p Bracketed items e = absurd cc

pass_between : (p : ℕ → Bool) (place : ListState) (text : List ℕ) (items : List (List ℕ)) → list_all p text ≡ true → between_cuts place text ≡ Some items → Pass p items
pass_between p place [] items h e = pass_nil p place items e
pass_between p place (b ∷ bs) items h e =
    let both = and_both (p b) (list_all p bs) h in
    pass_either p place b bs items (is_cut place b) refl both.0 e (λ pl rest r. pass_between p pl bs rest both.1 r)

all_parts : (p : ℕ → Bool) (xs ys : List ℕ) → list_all p (xs ++ ys) ≡ true → (list_all p xs ≡ true) × (list_all p ys ≡ true)
all_parts p xs ys e = and_both (list_all p xs) (list_all p ys) (sym (list_all-append p xs ys) ∙ e)

pub all_trimmed_pass : (p : ℕ → Bool) (text : List ℕ) → list_all p text ≡ true → list_all p (trimmed text) ≡ true
all_trimmed_pass p text e =
    let s : IsSplit text = split_of text in
    let whole : list_all p ((s.before ++ s.core) ++ s.behind) ≡ true = ap (list_all p) (sym s.whole) ∙ e in
    ap (list_all p) (core_is text s) ∙ (all_parts p s.before s.core (all_parts p (s.before ++ s.core) s.behind whole).0).1

-- an item of a list whose bytes pass
pub record IsItemOf (p : ℕ → Bool) (item : List ℕ) : Type 0 where
  pub one : cut item ≡ Some (item ∷ [])
  pub pass : list_all p item ≡ true
  pub tight : IsTight item

of_step : (p : ℕ → Bool) (item : List ℕ) (t : Bool) (o : Option (List (List ℕ))) (out : List (List ℕ)) → is_nil (trimmed item) ≡ t → IsOne Outside item
    → list_all p item ≡ true → cond t None (option_map (λ others. trimmed item ∷ others) o) ≡ Some out
    → ((rest : List (List ℕ)) → o ≡ Some rest → AllByRecursion (IsItemOf p) rest) → AllByRecursion (IsItemOf p) out
of_step p item true o out is one h e rest_are = absurd cc
of_step p item false None out is one h e rest_are = absurd cc
of_step p item false (Some rest) out is one h e rest_are =
    let same : trimmed item ∷ rest ≡ out = cc in
    subst (AllByRecursion (IsItemOf p)) same (
      record {
        one = cut_one (trimmed item) (one_trimmed item one) (tight_of item) is;
        pass = all_trimmed_pass p item h;
        tight = tight_of item;
      },
      rest_are rest refl,
    )

of_all : (p : ℕ → Bool) (items out : List (List ℕ)) → AllByRecursion (IsOne Outside) items → Pass p items → all_trimmed items ≡ Some out → AllByRecursion (IsItemOf p) out
of_all p [] out h k e =
    let same : [] ≡ out = cc in
    subst (AllByRecursion (IsItemOf p)) same tt
of_all p (item ∷ items) out h k e = of_step p item (is_nil (trimmed item)) (all_trimmed items) out refl h.0 k.0 e (λ rest r. of_all p items rest h.1 k.1 r)

of_option : (p : ℕ → Bool) (o : Option (List (List ℕ))) (out : List (List ℕ)) → option_and_then all_trimmed o ≡ Some out
    → ((items : List (List ℕ)) → o ≡ Some items → AreOnes Outside items) → ((items : List (List ℕ)) → o ≡ Some items → Pass p items) → AllByRecursion (IsItemOf p) out
of_option p None out e are pass = absurd cc
of_option p (Some items) out e are pass = of_all p items out (ones items (are items refl)) (pass items refl) e

pub items_are : (p : ℕ → Bool) (text : List ℕ) (out : List (List ℕ)) → list_all p text ≡ true → cut text ≡ Some out → AllByRecursion (IsItemOf p) out
items_are p text out h e = of_option p (between_cuts Outside text) out e (λ items k. are_ones Outside text items k) (λ items k. pass_between p Outside text items h k)
