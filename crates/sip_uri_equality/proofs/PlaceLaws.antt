-- Two lists that differ at a place.
use Rattle.std.proofs.Common.{◌≡◌, ℕ, zero, suc, ◌<◌, Bool, true, false, List, [], ◌∷◌, length, get_or, Bor, refl, ap, sym, ◌∙◌, arith}
use Rattle.std.specs.Prelude.{◌&&◌}
use Rattle.std.specs.List.{list_all}
use Rattle.sip_uri.specs.declared.parameters.UriParameter.{UriParameter}
use Rattle.sip_uri_equality.specs.Equality.{says_same_no_case, both_or_none, agrees, are_same_parameters}
use Rattle.sip_uri_equality.specs.Order.{those_of}
use Rattle.sip_uri_equality.proofs.Equal.{part_own}

-- parameters of one name and of different values don't agree
pub values_differ_alone : (p q : UriParameter) → p.name ≡ q.name → both_or_none says_same_no_case p.value q.value ≡ false → agrees p q ≡ false
values_differ_alone p q same differ = let name : says_same_no_case p.name q.name ≡ true = ap (says_same_no_case p.name) (sym same) ∙ part_own p.name in rw name differ

and_left : (a b : Bool) → a ≡ false → (a && b) ≡ false
and_left a b e = rw e refl

-- a test that fails at a place fails
fails : (f : UriParameter → Bool) (xs : List (Bor UriParameter)) (i : ℕ) (d : Bor UriParameter) → i < length xs → f (get_or xs i d).now ≡ false
    → list_all f (those_of xs) ≡ false
fails f [] i d within e = absurd (omega (arith, within))
fails f (x ∷ xs) zero d within e = rw e refl
fails f (x ∷ xs) (suc i) d within e = later (f x.now) (fails f xs i d (omega (arith, within)) e) where
  later : (a : Bool) → list_all f (those_of xs) ≡ false → (a && list_all f (those_of xs)) ≡ false
  later true rest = rest
  later false rest = refl

pub differ_there : (ps qs : List (Bor UriParameter)) (i : ℕ) (d e : Bor UriParameter) → i < length ps → i < length qs
    → agrees (get_or ps i d).now (get_or qs i e).now ≡ false
    → are_same_parameters (those_of ps) (those_of qs) ≡ false
differ_there ps qs i d e left right differ =
    and_left _ _ (fails (λ (p : UriParameter). list_all (λ (q : UriParameter). agrees p q) (those_of qs)) ps i d left
    (fails (λ (q : UriParameter). agrees (get_or ps i d).now q) qs i e right differ))
