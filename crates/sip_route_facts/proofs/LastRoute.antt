-- The last of some Routes, and the others.
use Rattle.std.proofs.Common.{◌≡◌, ℕ, List, [], ◌∷◌, ◌++◌, length, map, None, refl, sym, ap, ◌∙◌, arith, Bor}
use Rattle.std.specs.Prelude.{reverse, drop}
use Rattle.std.proofs.lemmas.List.{reverse-reverse}
use Rattle.sip_route.specs.Routes.{all_but_last}
use Rattle.sip_route_facts.specs.RouteFacts.{first_host_port}
use Rattle.sip_route.proofs.Last.{seen, last_first}

pub others_lead : (xs rest : List (Bor (List ℕ))) (x : Bor (List ℕ)) → xs ≡ rest ++ x ∷ []
    → first_host_port (map (λ b. b.now) rest) ≡ first_host_port (all_but_last (map (λ b. b.now) xs))
others_lead xs rest x is = ap first_host_port (sym (ap (λ (w : List (List ℕ)). reverse (drop 1 w)) (last_first xs rest x is) ∙ reverse-reverse (seen rest)))

pub none_lead : (xs : List (Bor (List ℕ))) → length xs ≡ 0 → None ≡ first_host_port (all_but_last (map (λ b. b.now) xs))
none_lead [] e = refl
none_lead (x ∷ xs) e = absurd (omega arith)
