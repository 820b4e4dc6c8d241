-- The first answer that passes a test, found one by one.
use Rattle.std.proofs.Common.{◌≡◌, ℕ, ◌+◌, ◌<◌, ◌≤◌, ◌-◌, List, [], ◌∷◌, ◌++◌, length, take, drop, get_or, Bool, true, false, refl, ap, sym, ◌∙◌, arith, append_assoc}
use Rattle.std.proofs.Common.{Option, Some, None}
use Rattle.std.specs.Prelude.{option_map}
use Rattle.sip_best.specs.declared.final_answer.Final.{Final}
use Rattle.std.specs.List.{list_any}
use Rattle.std.proofs.lemmas.List.{drop_more, take_more, take_all, drop_all, length-drop}
use Rattle.sip_best.specs.Ranks.{outranks}
use Rattle.sip_best.specs.Best.{is_unbeaten, picked, chosen_of}

-- what is picked behind some answers, which are among the others then
abbrev pub behind : List Final → Option (Final × List Final) → Option (Final × List Final)
behind front found = option_map (λ x. (x.0, front ++ x.1)) found

picked_here : (test : Final → Bool) (front : List Final) (f : Final) (fs : List Final) → test f ≡ true → behind front (picked test (f ∷ fs)) ≡ Some (f, front ++ fs)
picked_here test front f fs e = rw e refl

not_picked : (test : Final → Bool) (front : List Final) (f : Final) (fs : List Final) → test f ≡ false
    → behind (front ++ f ∷ []) (picked test fs) ≡ behind front (picked test (f ∷ fs))
not_picked test front f fs e = rw e (by_rest (picked test fs)) where
  by_rest : (o : Option (Final × List Final)) → behind (front ++ f ∷ []) o ≡ behind front (option_map {U = Final × List Final} (λ x. (x.0, f ∷ x.1)) o)
  by_rest None = refl
  by_rest (Some x) = simp append_assoc

pub picked_from_start : (test : Final → Bool) (fs : List Final) → behind [] (picked test fs) ≡ picked test fs
picked_from_start test fs = by_found (picked test fs) where
  by_found : (o : Option (Final × List Final)) → behind [] o ≡ o
  by_found None = refl
  by_found (Some x) = refl

-- at a place in a list

pub chosen_at : (finals : List Final) (i : ℕ) (f : Final) → i < length finals → f ≡ get_or finals i f
    → behind (take i finals) (picked (is_unbeaten finals) (drop i finals)) ≡ chosen_of finals → list_any (λ g. outranks g f) finals ≡ false
    → chosen_of finals ≡ Some (f, take i finals ++ take (length finals - (i + 1)) (drop (i + 1) finals))
chosen_at finals i f h is so_far none =
    let cut : drop i finals ≡ f ∷ drop (i + 1) finals = rw (drop_more finals i f h, ← is) refl in
    let passes : is_unbeaten finals f ≡ true = rw none refl in
    let last : take (length finals - (i + 1)) (drop (i + 1) finals) ≡ drop (i + 1) finals = take_all _ _ (omega (arith, length-drop (i + 1) finals)) in
    rw last (sym so_far ∙ (ap (λ (v : List Final). behind (take i finals) (picked (is_unbeaten finals) v)) cut
    ∙ picked_here (is_unbeaten finals) (take i finals) f (drop (i + 1) finals) passes))

pub not_chosen_at : (finals : List Final) (i : ℕ) (f : Final) → i < length finals → f ≡ get_or finals i f
    → behind (take i finals) (picked (is_unbeaten finals) (drop i finals)) ≡ chosen_of finals → list_any (λ g. outranks g f) finals ≡ true
    → behind (take (i + 1) finals) (picked (is_unbeaten finals) (drop (i + 1) finals)) ≡ chosen_of finals
not_chosen_at finals i f h is so_far one =
    let cut : drop i finals ≡ f ∷ drop (i + 1) finals = rw (drop_more finals i f h, ← is) refl in
    let front : take (i + 1) finals ≡ take i finals ++ f ∷ [] = rw (take_more finals i f h, ← is) refl in
    let fails : is_unbeaten finals f ≡ false = rw one refl in
    rw front (not_picked (is_unbeaten finals) (take i finals) f (drop (i + 1) finals) fails
    ∙ (ap (λ (v : List Final). behind (take i finals) (picked (is_unbeaten finals) v)) (sym cut) ∙ so_far))

pub none_left : (test : Final → Bool) (finals : List Final) (i : ℕ) → length finals ≤ i → behind (take i finals) (picked test (drop i finals)) ≡ None
none_left test finals i h = rw (drop_all i finals h) refl
