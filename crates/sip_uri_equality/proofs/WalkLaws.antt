-- Two lists of parameters in order, walked side by side by their places.
use Rattle.std.proofs.Common.{◌≡◌, ℕ, zero, suc, ◌+◌, ◌-◌, ◌<◌, ◌≤◌, Bool, false, List, [], ◌∷◌, length, take, drop, Bor, Ordering, refl, sym, ap, ap₂, subst, ◌∙◌}
use Rattle.std.proofs.Common.{length-drop, arith}
use Rattle.std.specs.Prelude.{not}
use Rattle.std.specs.List.{list_all}
use Rattle.std.proofs.lemmas.List.{take_all, drop_all}
use Rattle.sip_uri.specs.declared.parameters.UriParameter.{UriParameter}
use Rattle.sip_uri_equality.specs.declared.parameter_order.Advance.TheVariants.{Left, Right, Both, Differ}
use Rattle.sip_uri_equality.specs.Equality.{is_never_ignored, are_same_parameters}
use Rattle.sip_uri_equality.specs.Order.{order_of_names, AreInOrder, those_of}
use Rattle.sip_uri_equality.specs.Walk.{IsAdvance}
use Rattle.sip_uri_equality.proofs.ParameterLaws.{left_ends, right_ends}

-- ---- from a place on

-- a slice up to its end
rest_is : {X : Type 0} (xs : List X) (i : ℕ) → take (length xs - i) (drop i xs) ≡ drop i xs
rest_is xs i = take_all (length xs - i) (drop i xs) (omega (arith, length-drop i xs))

drop_in_order : {X : Type 0} (order : X → X → Ordering) (i : ℕ) (xs : List (Bor X)) → AreInOrder order (those_of xs) → AreInOrder order (those_of (drop i xs))
drop_in_order order zero xs up = up
drop_in_order order (suc i) [] up = tt
drop_in_order order (suc i) (x ∷ xs) up = drop_in_order order i xs up.1

next_suc : {X : Type 0} (i : ℕ) (xs : List (Bor X)) → those_of (drop (suc i) xs) ≡ drop 1 (those_of (drop i xs))
next_suc zero [] = refl
next_suc zero (x ∷ xs) = refl
next_suc (suc i) [] = refl
next_suc (suc i) (x ∷ xs) = next_suc i xs

next : {X : Type 0} (i : ℕ) (xs : List (Bor X)) → those_of (drop (i + 1) xs) ≡ drop 1 (those_of (drop i xs))
next i xs =
    let one : i + 1 ≡ suc i = omega arith in
    ap (λ (n : ℕ). those_of (drop n xs)) one ∙ next_suc i xs

-- what a call at the rest asks
pub rest_in_order : (xs : List (Bor UriParameter)) (i : ℕ) → i < length xs → AreInOrder order_of_names (those_of xs)
    → (0 < length (take (length xs - i) (drop i xs))) × AreInOrder order_of_names (those_of (take (length xs - i) (drop i xs)))
rest_in_order xs i within up =
    subst (λ (ys : List (Bor UriParameter)). (0 < length ys) × AreInOrder order_of_names (those_of ys)) (sym (rest_is xs i))
    (omega (arith, length-drop i xs), drop_in_order order_of_names i xs up)

-- ---- a step, over any lists

module _ (ps qs rs ss : List UriParameter) (total : Bool) (e : rs ≡ ps) (f : ss ≡ qs) (so_far : are_same_parameters ps qs ≡ total) where
  to_here : are_same_parameters rs ss ≡ total
  to_here = ap₂ are_same_parameters e f ∙ so_far

  step_left : (more : List UriParameter) → more ≡ drop 1 ps → IsAdvance Left rs ss → are_same_parameters more qs ≡ total
  step_left more g step = ap₂ are_same_parameters (g ∙ ap (drop 1) (sym e)) (sym f) ∙ sym step ∙ to_here

  step_right : (more : List UriParameter) → more ≡ drop 1 qs → IsAdvance Right rs ss → are_same_parameters ps more ≡ total
  step_right more g step = ap₂ are_same_parameters (sym e) (g ∙ ap (drop 1) (sym f)) ∙ sym step ∙ to_here

  step_both : (left right : List UriParameter) → left ≡ drop 1 ps → right ≡ drop 1 qs → IsAdvance Both rs ss → are_same_parameters left right ≡ total
  step_both left right g h step = ap₂ are_same_parameters (g ∙ ap (drop 1) (sym e)) (h ∙ ap (drop 1) (sym f)) ∙ sym step ∙ to_here

-- ---- the walk's steps

module _ (left right : List (Bor UriParameter)) (i j : ℕ) (total : Bool) (so_far : are_same_parameters (those_of (drop i left)) (those_of (drop j right)) ≡ total) where
  left_rest : those_of (take (length left - i) (drop i left)) ≡ those_of (drop i left)
  left_rest = ap those_of (rest_is left i)

  right_rest : those_of (take (length right - j) (drop j right)) ≡ those_of (drop j right)
  right_rest = ap those_of (rest_is right j)

  pub past_left : IsAdvance Left (those_of (take (length left - i) (drop i left))) (those_of (take (length right - j) (drop j right)))
      → are_same_parameters (those_of (drop (i + 1) left)) (those_of (drop j right)) ≡ total
  past_left step = step_left (those_of (drop i left)) (those_of (drop j right)) _ _ total left_rest right_rest so_far (those_of (drop (i + 1) left)) (next i left) step

  pub past_right : IsAdvance Right (those_of (take (length left - i) (drop i left))) (those_of (take (length right - j) (drop j right)))
      → are_same_parameters (those_of (drop i left)) (those_of (drop (j + 1) right)) ≡ total
  past_right step = step_right (those_of (drop i left)) (those_of (drop j right)) _ _ total left_rest right_rest so_far (those_of (drop (j + 1) right)) (next j right)
      step

  pub past_both : IsAdvance Both (those_of (take (length left - i) (drop i left))) (those_of (take (length right - j) (drop j right)))
      → are_same_parameters (those_of (drop (i + 1) left)) (those_of (drop (j + 1) right)) ≡ total
  past_both step = step_both (those_of (drop i left)) (those_of (drop j right)) _ _ total left_rest right_rest so_far (those_of (drop (i + 1) left))
      (those_of (drop (j + 1) right)) (next i left) (next j right) step

  pub differ_there : IsAdvance Differ (those_of (take (length left - i) (drop i left))) (those_of (take (length right - j) (drop j right))) → false ≡ total
  differ_there step = sym step ∙ ap₂ are_same_parameters left_rest right_rest ∙ so_far

  pub right_ended : (r : Bool) → length right ≤ j → r ≡ list_all (λ (p : UriParameter). not (is_never_ignored p.name)) (those_of (take (length left - i) (drop i left)))
      → r ≡ total
  right_ended r ended is =
      is ∙ ap (list_all (λ (p : UriParameter). not (is_never_ignored p.name))) left_rest ∙ sym (right_ends (those_of (drop i left)))
      ∙ ap (λ (ys : List (Bor UriParameter)). are_same_parameters (those_of (drop i left)) (those_of ys)) (sym (drop_all j right ended)) ∙ so_far

  pub left_ended : (r : Bool) → length left ≤ i → r ≡ list_all (λ (p : UriParameter). not (is_never_ignored p.name)) (those_of (take (length right - j) (drop j right)))
      → r ≡ total
  left_ended r ended is =
      is ∙ ap (list_all (λ (p : UriParameter). not (is_never_ignored p.name))) right_rest ∙ sym (left_ends (those_of (drop j right)))
      ∙ ap (λ (ys : List (Bor UriParameter)). are_same_parameters (those_of ys) (those_of (drop j right))) (sym (drop_all i left ended)) ∙ so_far
