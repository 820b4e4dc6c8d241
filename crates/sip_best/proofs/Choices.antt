-- The choice among final answers.
use Rattle.std.proofs.Common.{◌≡◌, ◌≤◌, List, [], ◌∷◌, ◌++◌, length, cond, ltb, leb, Bool, true, false, refl, ap, subst, arith, Option, Some, None}
use Rattle.std.specs.Prelude.{◌||◌, option_map, is_some, IsSome}
use Rattle.std.specs.List.{AllByRecursion, list_any}
use Rattle.std.proofs.lemmas.Bool.Decides.{nat_tests}
use Rattle.sip_message_fields.specs.declared.field.Field.{Field}
use Rattle.sip_message_form.specs.declared.message.Message.{Message}
use Rattle.sip_message_form.specs.Text.{text_of}
use Rattle.sip_best.specs.declared.final_answer.Final.{Final}
use Rattle.sip_best.specs.Ranks.{outranks}
use Rattle.sip_best.specs.Best.{is_unbeaten, picked, chosen_of, IsChosen, going_up, best_of, with_field, fits, taking_along}
use Rattle.sip_best.proofs.Orders.{rank_of, outranks_is_lower}

-- ---- what is picked

pub record IsPicked (test : Final → Bool) (finals : List Final) (f : Final) (others : List Final) : Type 0 where
  pub front : List Final
  pub behind : List Final
  pub whole : finals ≡ front ++ f ∷ behind
  pub rest : others ≡ front ++ behind
  pub passes : test f ≡ true
  pub first : AllByRecursion (λ e. test e ≡ false) front

picked_is : (test : Final → Bool) (finals : List Final) (x : Final × List Final) → picked test finals ≡ Some x → IsPicked test finals x.0 x.1
picked_is test [] x e = absurd (cc)
picked_is test (f ∷ fs) x e = by_test (test f) refl (picked test fs) refl (λ y l. picked_is test fs y l) e where
  by_test : (t : Bool) → test f ≡ t → (later : Option (Final × List Final)) → picked test fs ≡ later
      → ((y : Final × List Final) → picked test fs ≡ Some y → IsPicked test fs y.0 y.1) → cond t (Some (f, fs)) (option_map (λ y. (y.0, f ∷ y.1)) later) ≡ Some x
      → IsPicked test (f ∷ fs) x.0 x.1
  by_test true is later l behind e =
      let same : (f, fs) ≡ x = cc in
      subst (λ (y : Final × List Final). IsPicked test (f ∷ fs) y.0 y.1) same (record { front = []; behind = fs; whole = refl; rest = refl; passes = is; first = tt })
  by_test false is None l behind e = absurd (cc)
  by_test false is (Some y) l behind e =
      let same : (y.0, f ∷ y.1) ≡ x = cc in
      let p = behind y l in
      subst (λ (z : Final × List Final). IsPicked test (f ∷ fs) z.0 z.1) same (record {
        front = f ∷ p.front;
        behind = p.behind;
        whole = ap (λ (v : List Final). f ∷ v) p.whole;
        rest = ap (λ (v : List Final). f ∷ v) p.rest;
        passes = p.passes;
        first = (is, p.first);
      })

none_any : {X : Type 0} (p : X → Bool) (xs : List X) → list_any p xs ≡ false → AllByRecursion (λ x. p x ≡ false) xs
none_any p [] e = tt
none_any p (x ∷ xs) e = by_test (p x) refl (λ h. none_any p xs h) e where
  by_test : (t : Bool) → p x ≡ t → (list_any p xs ≡ false → AllByRecursion (λ y. p y ≡ false) xs) → (t || list_any p xs) ≡ false
      → AllByRecursion (λ y. p y ≡ false) (x ∷ xs)
  by_test true is others e = absurd (cc)
  by_test false is others e = (is, others e)

pub chosen_is : (finals others : List Final) (f : Final) → chosen_of finals ≡ Some (f, others) → IsChosen finals f others
chosen_is finals others f e =
    let p = picked_is (is_unbeaten finals) finals (f, others) e in
    let none : list_any (λ g. outranks g f) finals ≡ false = grind (arith, nat_tests, p.passes) in
    record { front = p.front; behind = p.behind; whole = p.whole; rest = p.rest; unbeaten = none_any (λ g. outranks g f) finals none; first = p.first }

-- ---- one is picked

-- the first of the lowest rank
lowest : Final → List Final → Final
lowest f [] = f
lowest f (g ∷ gs) = cond (ltb (rank_of g) (rank_of f)) (lowest g gs) (lowest f gs)

-- it is one of them: it passes no test that none passes
lowest_stands : (test : Final → Bool) (f : Final) (fs : List Final) → test (lowest f fs) ≡ true → list_any test (f ∷ fs) ≡ true
unfolding lowest
lowest_stands test f [] e = rw e refl
lowest_stands test f (g ∷ gs) e = by_test (ltb (rank_of g) (rank_of f)) (λ h. lowest_stands test g gs h) (λ h. lowest_stands test f gs h) e where
  by_test : (t : Bool) → (test (lowest g gs) ≡ true → list_any test (g ∷ gs) ≡ true) → (test (lowest f gs) ≡ true → list_any test (f ∷ gs) ≡ true)
      → test (cond t (lowest g gs) (lowest f gs)) ≡ true → list_any test (f ∷ g ∷ gs) ≡ true
  by_test true second first e = let later : list_any test (g ∷ gs) ≡ true = second e in grind (arith, nat_tests)
  by_test false second first e = let later : list_any test (f ∷ gs) ≡ true = first e in grind (arith, nat_tests)

lowest_no_more : (f : Final) (fs : List Final) → rank_of (lowest f fs) ≤ rank_of f
unfolding lowest
lowest_no_more f [] = omega arith
lowest_no_more f (g ∷ gs) = by_test (ltb (rank_of g) (rank_of f)) refl (lowest_no_more g gs) (lowest_no_more f gs) where
  by_test : (t : Bool) → ltb (rank_of g) (rank_of f) ≡ t → rank_of (lowest g gs) ≤ rank_of g → rank_of (lowest f gs) ≤ rank_of f
      → rank_of (cond t (lowest g gs) (lowest f gs)) ≤ rank_of f
  by_test true is second first = grind (arith, nat_tests)
  by_test false is second first = first

lowest_unbeaten : (f : Final) (fs : List Final) → list_any (λ g. outranks g (lowest f fs)) (f ∷ fs) ≡ false
unfolding lowest
lowest_unbeaten f [] = let own = outranks_is_lower f f in grind (arith, nat_tests)
lowest_unbeaten f (g ∷ gs) = by_test (ltb (rank_of g) (rank_of f)) refl (lowest_unbeaten g gs) (lowest_unbeaten f gs) where
  by_test : (t : Bool) → ltb (rank_of g) (rank_of f) ≡ t → list_any (λ h. outranks h (lowest g gs)) (g ∷ gs) ≡ false
      → list_any (λ h. outranks h (lowest f gs)) (f ∷ gs) ≡ false → list_any (λ h. outranks h (cond t (lowest g gs) (lowest f gs))) (f ∷ g ∷ gs) ≡ false
  by_test true is second rest =
      let less = lowest_no_more g gs in
      let first = outranks_is_lower f (lowest g gs) in
      grind (arith, nat_tests)
  by_test false is rest later =
      let less = lowest_no_more f gs in
      let own = outranks_is_lower g (lowest f gs) in
      grind (arith, nat_tests)

picked_some : (test : Final → Bool) (finals : List Final) → list_any test finals ≡ true → is_some (picked test finals) ≡ true
picked_some test [] e = e
picked_some test (f ∷ fs) e = by_test (test f) (λ h. picked_some test fs h) e where
  by_test : (t : Bool) → (list_any test fs ≡ true → is_some (picked test fs) ≡ true) → (t || list_any test fs) ≡ true
      → is_some {T = Final × List Final} (cond t (Some (f, fs)) (option_map (λ x. (x.0, f ∷ x.1)) (picked test fs))) ≡ true
  by_test true others e = refl
  by_test false others e = mapped (picked test fs) (others e) where
    mapped : (o : Option (Final × List Final)) → is_some o ≡ true → is_some {T = Final × List Final} (option_map (λ x. (x.0, f ∷ x.1)) o) ≡ true
    mapped None e = e
    mapped (Some x) e = refl

pub one_goes_up : (first : Final) (others : List Final) → IsSome (best_of (first ∷ others))
one_goes_up first others =
    let finals : List Final = first ∷ others in
    let unbeaten : is_unbeaten finals (lowest first others) ≡ true = rw (lowest_unbeaten first others) refl in
    mapped (chosen_of finals) (picked_some (is_unbeaten finals) finals (lowest_stands (is_unbeaten finals) first others unbeaten)) where
      mapped : (o : Option (Final × List Final)) → is_some o ≡ true → IsSome (option_map (λ x. going_up x.1 x.0) o)
      mapped None e = absurd (cc)
      mapped (Some x) e = refl

-- ---- challenges

pub taken_fits : (m : Message) (fields : List Field) → length (text_of m) ≤ 65507 → length (text_of (taking_along m fields)) ≤ 65507
taken_fits m [] h = h
taken_fits m (field ∷ fields) h = by_test (fits (with_field m field)) refl (λ k. taken_fits (with_field m field) fields k) where
  by_test : (t : Bool) → leb (length (text_of (with_field m field))) 65507 ≡ t → (length (text_of (with_field m field)) ≤ 65507
      → length (text_of (taking_along (with_field m field) fields)) ≤ 65507) → length (text_of (cond t (taking_along (with_field m field) fields) m)) ≤ 65507
  by_test true is more = more (grind (arith, nat_tests))
  by_test false is more = h
