-- Each digest is found where it stands, whatever happens to the list of them.
use Rattle.std.proofs.Common.{◌≡◌, ◌≢◌, ℕ, ◌+◌, ◌-◌, ◌<◌, zero, suc, List, [], ◌∷◌, ◌++◌, length, cond, Bool, true, false, refl, sym, ◌∙◌, ap, subst, set, arith}
use Rattle.std.proofs.Common.{slice_get, get_or, Option, Some, None, is_some, swap, swap_remove, length-append, length-take, length-set, eqb-true}
use Rattle.std.specs.Prelude.{◌&&◌, count_by, nat_eq}
use Rattle.std.proofs.lemmas.Bool.Decides.{nat_tests}
use Rattle.std.proofs.lemmas.List.{get_or_at, set-get_or}
use Rattle.std.proofs.lemmas.List.Edits.{length-swap}
use Rattle.std.proofs.lemmas.List.Sums.{sum_by_push, sum_by-swap_remove}
use Rattle.std.proofs.lemmas.Option.{slice_get_within, slice_get-get_or, get_or_from_slice_get}
use Rattle.sip_dialog.specs.Digests.{IsPlace, AreFound}
use Rattle.sip_dialog.proofs.Places.{count_swapped, swapped_first, swapped_second, swapped_other, last_there, others_stay}

-- what changes places with itself stays
pub swap_self : (list : List ℕ) (a b : ℕ) → a ≡ b → list ≡ swap list a b
swap_self [] a b e = refl
swap_self (x ∷ xs) a b e =
    sym (ap (λ (l : List ℕ). set l a (get_or (x ∷ xs) a x)) (set-get_or (x ∷ xs) a x) ∙ set-get_or (x ∷ xs) a x)
    ∙ ap (λ (n : ℕ). swap (x ∷ xs) a n) e

-- what a test of one digest counts of another
counted_same : (d q : ℕ) → nat_eq d q ≡ true → cond {A = ℕ} (nat_eq q d) 1 0 ≡ 1
counted_same d q e = grind (arith, nat_tests)

counted_other : (d q : ℕ) → nat_eq d q ≡ false → cond {A = ℕ} (nat_eq q d) 1 0 ≡ 0
counted_other d q e = grind (arith, nat_tests)

apart : (d q : ℕ) → nat_eq d q ≡ false → d ≢ q
apart d q e = grind (arith, nat_tests)

-- ---- one more

kept_push : (list : List ℕ) (d at q : ℕ) → slice_get list at ≡ Some q → slice_get (list ++ d ∷ []) at ≡ Some q
kept_push [] d at q e = absurd (cc)
kept_push (x ∷ xs) d zero q e = e
kept_push (x ∷ xs) d (suc at) q e = kept_push xs d at q e

last_push : (list : List ℕ) (d : ℕ) → slice_get (list ++ d ∷ []) (length list) ≡ Some d
last_push list d = slice_get-get_or (list ++ d ∷ []) (length list) d (omega (arith, length-append list (d ∷ []))) ∙ ap Some (get_or_at list d [] d (length list) refl)

none_yet : (d : ℕ) (list : List ℕ) (place : Option ℕ) → IsPlace d list place → place ≡ None → count_by (nat_eq d) list ≡ 0
none_yet d list None is e = is
none_yet d list (Some at) is e = absurd (cc)

place_pushed : (list : List ℕ) (d q : ℕ) (old : Option ℕ) (t : Bool) → nat_eq d q ≡ t → IsPlace q list old → count_by (nat_eq d) list ≡ 0
    → IsPlace q (list ++ d ∷ []) (cond t (Some (length list)) old)
place_pushed list d q old true e is none =
    let same : d ≡ q = eqb-true d q e in
    record {
      there = last_push list d ∙ ap Some same;
      once = omega (arith, sum_by_push (λ x. cond {A = ℕ} (nat_eq q x) 1 0) list d, counted_same d q e, ap (λ (n : ℕ). count_by (nat_eq n) list) same, none);
    }
place_pushed list d q None false e is none = omega (arith, sum_by_push (λ x. cond {A = ℕ} (nat_eq q x) 1 0) list d, counted_other d q e, is)
place_pushed list d q (Some at) false e is none = record {
  there = kept_push list d at q is.there;
  once = omega (arith, sum_by_push (λ x. cond {A = ℕ} (nat_eq q x) 1 0) list d, counted_other d q e, is.once);
}

pub pushed : (list : List ℕ) (d : ℕ) (old new : ℕ → Option ℕ) → AreFound list old → old d ≡ None → ((q : ℕ) → new q ≡ cond (nat_eq d q) (Some (length list)) (old q))
    → AreFound (list ++ d ∷ []) new
pushed list d old new found none is = record {
  place = λ q. subst (IsPlace q (list ++ d ∷ [])) (sym (is q)) (place_pushed list d q (old q) (nat_eq d q) refl (found.place q)
      (none_yet d list (old d) (found.place d) none));
}

-- ---- two that change places

-- where a digest is, once it is said that one stands elsewhere
abbrev pub moved : ℕ → ℕ → ℕ → Option ℕ → Option ℕ
moved d at q place = cond (nat_eq d q && is_some place) (Some at) place

module _ (list : List ℕ) (a b x y : ℕ) (inside_a : a < length list) (inside_b : b < length list) (at_a : x ≡ get_or list a x) (at_b : y ≡ get_or list b y) where
  there_a : slice_get (swap list a b) a ≡ Some y
  there_a = slice_get-get_or (swap list a b) a y (omega (arith, inside_a, length-swap list a b)) ∙ ap Some (swapped_first list a b inside_a inside_b y ∙ sym at_b)

  there_b : slice_get (swap list a b) b ≡ Some x
  there_b = slice_get-get_or (swap list a b) b x (omega (arith, inside_b, length-swap list a b)) ∙ ap Some (swapped_second list a b inside_a inside_b x ∙ sym at_a)

  there_other : (at q : ℕ) → slice_get list at ≡ Some q → x ≢ q → y ≢ q → slice_get (swap list a b) at ≡ Some q
  there_other at q there not_x not_y =
      slice_get-get_or (swap list a b) at q (omega (arith, slice_get_within list at q there, length-swap list a b))
      ∙ ap Some (swapped_other list a b inside_a inside_b at q
      (λ e. not_x (at_a ∙ ap (λ (n : ℕ). get_or list n x) (sym e) ∙ get_or_from_slice_get list at q x there))
      (λ e. not_y (at_b ∙ ap (λ (n : ℕ). get_or list n y) (sym e) ∙ get_or_from_slice_get list at q y there))
      ∙ get_or_from_slice_get list at q q there)

  place_swapped : (q : ℕ) (old : Option ℕ) (s t : Bool) → nat_eq x q ≡ s → nat_eq y q ≡ t → IsPlace q list old
      → IsPlace q (swap list a b) (cond (t && is_some (cond (s && is_some old) (Some b) old)) (Some a) (cond (s && is_some old) (Some b) old))
  place_swapped q None true true is_x is_y is = count_swapped list a b inside_a inside_b (nat_eq q) ∙ is
  place_swapped q None true false is_x is_y is = count_swapped list a b inside_a inside_b (nat_eq q) ∙ is
  place_swapped q None false true is_x is_y is = count_swapped list a b inside_a inside_b (nat_eq q) ∙ is
  place_swapped q None false false is_x is_y is = count_swapped list a b inside_a inside_b (nat_eq q) ∙ is
  place_swapped q (Some at) true true is_x is_y is = record {
    there = there_a ∙ ap Some (eqb-true y q is_y);
    once = count_swapped list a b inside_a inside_b (nat_eq q) ∙ is.once;
  }
  place_swapped q (Some at) false true is_x is_y is = record {
    there = there_a ∙ ap Some (eqb-true y q is_y);
    once = count_swapped list a b inside_a inside_b (nat_eq q) ∙ is.once;
  }
  place_swapped q (Some at) true false is_x is_y is = record {
    there = there_b ∙ ap Some (eqb-true x q is_x);
    once = count_swapped list a b inside_a inside_b (nat_eq q) ∙ is.once;
  }
  place_swapped q (Some at) false false is_x is_y is = record {
    there = there_other at q is.there (apart x q is_x) (apart y q is_y);
    once = count_swapped list a b inside_a inside_b (nat_eq q) ∙ is.once;
  }

  pub swapped : (old mid new : ℕ → Option ℕ) → AreFound list old → ((q : ℕ) → mid q ≡ moved x b q (old q)) → ((q : ℕ) → new q ≡ moved y a q (mid q))
      → AreFound (swap list a b) new
  swapped old mid new found first second = record {
    place = λ q. subst (IsPlace q (swap list a b)) (sym (second q ∙ ap (moved y a q) (first q)))
        (place_swapped q (old q) (nat_eq x q) (nat_eq y q) refl refl (found.place q));
  }

-- ---- one less

module _ (list : List ℕ) (at x other : ℕ) (inside : at < length list) (at_x : x ≡ get_or list at x) where
  less : (q : ℕ) (t : Bool) → nat_eq x q ≡ t → count_by (nat_eq q) (swap_remove list at other) + cond t 1 0 ≡ count_by (nat_eq q) list
  less q t e =
      let here : cond {A = ℕ} (nat_eq q (get_or list at other)) 1 0 ≡ cond {A = ℕ} (nat_eq q x) 1 0 =
      ap (λ (n : ℕ). cond {A = ℕ} (nat_eq q n) 1 0) (any_default list at other x inside ∙ sym at_x) in
      omega (arith, sum_by-swap_remove (λ n. cond {A = ℕ} (nat_eq q n) 1 0) list at other inside, here, test_is t e)
    where
      any_default : (xs : List ℕ) (i d e : ℕ) → i < length xs → get_or xs i d ≡ get_or xs i e
      any_default [] i d e lt = absurd (omega arith)
      any_default (z ∷ zs) zero d e lt = refl
      any_default (z ∷ zs) (suc i) d e lt = any_default zs i d e (omega arith)

      test_is : (t : Bool) → nat_eq x q ≡ t → cond {A = ℕ} (nat_eq q x) 1 0 ≡ cond {A = ℕ} t 1 0
      test_is true is = counted_same x q is
      test_is false is = counted_other x q is

  shorter : length (swap_remove list at other) + 1 ≡ length list
  shorter = grind (arith, length-take, length-set)

  stays : (p q : ℕ) → slice_get list p ≡ Some q → x ≢ q → p < length list - 1 → slice_get (swap_remove list at other) p ≡ Some q
  stays p q there not_x lt =
      slice_get-get_or (swap_remove list at other) p q (omega (arith, shorter, lt))
      ∙ ap Some (others_stay list at other inside p q (λ e. not_x (at_x ∙ ap (λ (n : ℕ). get_or list n x) (sym e) ∙ get_or_from_slice_get list p q x there)) lt
      ∙ get_or_from_slice_get list p q q there)

  gone : (q : ℕ) (old : Option ℕ) → nat_eq x q ≡ true → IsPlace q list old → count_by (nat_eq q) (swap_remove list at other) ≡ 0
  gone q None e is = omega (arith, less q true e, is)
  gone q (Some p) e is = omega (arith, less q true e, is.once)

  -- where it was the last one
  place_last : (q : ℕ) (old : Option ℕ) (t : Bool) → nat_eq x q ≡ t → length list ≡ at + 1 → IsPlace q list old → IsPlace q (swap_remove list at other) (cond t None old)
  place_last q old true e last is = gone q old e is
  place_last q None false e last is = omega (arith, less q false e, is)
  place_last q (Some p) false e last is = record {
    there = stays p q is.there (apart x q e) (not_last p (slice_get_within list p q is.there)
        (λ same. apart x q e (at_x ∙ ap (λ (n : ℕ). get_or list n x) (sym same) ∙ get_or_from_slice_get list p q x is.there)));
    once = omega (arith, less q false e, is.once);
  }
    where
      not_last : (p : ℕ) → p < length list → p ≢ at → p < length list - 1
      not_last p lt differ = grind (arith, nat_tests)

  pub removed_last : (old new : ℕ → Option ℕ) → length list ≡ at + 1 → AreFound list old → ((q : ℕ) → new q ≡ cond (nat_eq x q) None (old q))
      → AreFound (swap_remove list at other) new
  removed_last old new last found is = record {
    place = λ q. subst (IsPlace q (swap_remove list at other)) (sym (is q)) (place_last q (old q) (nat_eq x q) refl last (found.place q));
  }

  -- where the last one takes its place
  module _ (y : ℕ) (lt : at < length list - 1) (at_y : y ≡ get_or (swap_remove list at other) at y) where
    place_between : (q : ℕ) (old : Option ℕ) (s t : Bool) → nat_eq x q ≡ s → nat_eq y q ≡ t → IsPlace q list old
        → IsPlace q (swap_remove list at other) (cond (t && is_some (cond s None old)) (Some at) (cond s None old))
    place_between q old true true is_x is_y is = gone q old is_x is
    place_between q old true false is_x is_y is = gone q old is_x is
    place_between q None false true is_x is_y is = omega (arith, less q false is_x, is)
    place_between q None false false is_x is_y is = omega (arith, less q false is_x, is)
    place_between q (Some p) false true is_x is_y is = record {
      there = slice_get-get_or (swap_remove list at other) at y (omega (arith, shorter, lt)) ∙ ap Some (sym at_y ∙ eqb-true y q is_y);
      once = omega (arith, less q false is_x, is.once);
    }
    place_between q (Some p) false false is_x is_y is = record {
      there = stays p q is.there (apart x q is_x) (not_last (slice_get_within list p q is.there)
          (λ same. apart y q is_y (at_y ∙ last_there list at other inside y lt ∙ ap (λ (n : ℕ). get_or list n y) (sym same)
          ∙ get_or_from_slice_get list p q y is.there)));
      once = omega (arith, less q false is_x, is.once);
    }
      where
        not_last : p < length list → p ≢ length list - 1 → p < length list - 1
        not_last within differ = grind (arith, nat_tests)

    pub removed : (old mid new : ℕ → Option ℕ) → AreFound list old → ((q : ℕ) → mid q ≡ cond (nat_eq x q) None (old q)) → ((q : ℕ) → new q ≡ moved y at q (mid q))
        → AreFound (swap_remove list at other) new
    removed old mid new found first second = record {
      place = λ q. subst (IsPlace q (swap_remove list at other)) (sym (second q ∙ ap (moved y at q) (first q)))
          (place_between q (old q) (nat_eq x q) (nat_eq y q) refl refl (found.place q));
    }
