-- The last of some Routes, and the others.
use Rattle.std.proofs.Common.{◌≡◌, ℕ, false, List, [], ◌∷◌, ◌++◌, length, map, None, refl, sym, ap, ◌∙◌, arith, Bor}
use Rattle.std.specs.Prelude.{reverse, drop}
use Rattle.std.proofs.lemmas.List.{map-append, reverse-append, reverse-reverse}
use Rattle.sip_header.specs.Route.{route_of}
use Rattle.sip_route.specs.Way.{first_route, last_route, begins_with_own}
use Rattle.sip_route.specs.Routes.{all_but_last, without_own}
use Rattle.sip_route.specs.declared.own.Own.{Own}

abbrev pub seen : List (Bor (List ℕ)) → List (List ℕ)
seen xs = map (λ x. x.now) xs

pub last_first : (xs rest : List (Bor (List ℕ))) (x : Bor (List ℕ)) → xs ≡ rest ++ x ∷ [] → reverse (seen xs) ≡ x.now ∷ reverse (seen rest)
last_first xs rest x is = ap (λ (w : List (Bor (List ℕ))). reverse (seen w)) is ∙ ap reverse (map-append (λ (b : Bor (List ℕ)). b.now) rest (x ∷ []))
    ∙ reverse-append (seen rest) (x.now ∷ [])

pub last_is : (xs rest : List (Bor (List ℕ))) (x : Bor (List ℕ)) → xs ≡ rest ++ x ∷ [] → last_route (map (λ b. b.now) xs) ≡ route_of x.now
last_is xs rest x is = ap first_route (last_first xs rest x is)

pub no_last : (xs : List (Bor (List ℕ))) → length xs ≡ 0 → last_route (map (λ b. b.now) xs) ≡ None
no_last [] e = refl
no_last (x ∷ xs) e = absurd (omega arith)

pub others_are : (own : Own) (xs rest : List (Bor (List ℕ))) (x : Bor (List ℕ)) → xs ≡ rest ++ x ∷ []
    → without_own own (map (λ b. b.now) rest) ≡ without_own own (all_but_last (map (λ b. b.now) xs))
others_are own xs rest x is = ap (without_own own) (sym (ap (λ (w : List (List ℕ)). reverse (drop 1 w)) (last_first xs rest x is) ∙ reverse-reverse (seen rest)))

pub no_others : (own : Own) (xs : List (Bor (List ℕ))) → length xs ≡ 0 → [] ≡ without_own own (all_but_last (map (λ b. b.now) xs))
no_others own [] e = refl
no_others own (x ∷ xs) e = absurd (omega arith)

pub others_begin : (own : Own) (xs rest : List (Bor (List ℕ))) (x : Bor (List ℕ)) → xs ≡ rest ++ x ∷ []
    → begins_with_own own (map (λ b. b.now) rest) ≡ begins_with_own own (all_but_last (map (λ b. b.now) xs))
others_begin own xs rest x is = ap (begins_with_own own) (sym (ap (λ (w : List (List ℕ)). reverse (drop 1 w)) (last_first xs rest x is) ∙ reverse-reverse (seen rest)))

pub none_begin : (own : Own) (xs : List (Bor (List ℕ))) → length xs ≡ 0 → false ≡ begins_with_own own (all_but_last (map (λ b. b.now) xs))
none_begin own [] e = refl
none_begin own (x ∷ xs) e = absurd (omega arith)
