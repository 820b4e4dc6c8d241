-- Places that are filed rule by rule.
use Rattle.std.proofs.Common.{◌≡◌, ℕ, Bool, true, false, if◌then◌else◌, nat_eq, ◌+◌, ◌<◌, length, take, get_or, List, [], ◌∷◌, ◌++◌, sym, ap, ap₂, ◌∙◌, arith}
use Rattle.std.proofs.lemmas.List.{take_more, length-take}
use Rattle.std.proofs.lemmas.Bool.Decides.{nat_tests}
use Rattle.sip_policy.specs.declared.rule.Rule.{Rule}
use Rattle.sip_policy_index.specs.Places.{places_from, places_of, filed, AreFiled}

more_step : (at m n : ℕ) (is more : Bool) (rest longer : List ℕ) → m ≡ n → longer ≡ (if more then rest ++ m ∷ [] else rest)
    → (if is then at ∷ longer else longer) ≡ (if more then (if is then at ∷ rest else rest) ++ n ∷ [] else (if is then at ∷ rest else rest))
more_step at m n true true rest longer same e = ap (λ (l : List ℕ). at ∷ l) (e ∙ ap (λ (k : ℕ). rest ++ k ∷ []) same)
more_step at m n true false rest longer same e = ap (λ (l : List ℕ). at ∷ l) e
more_step at m n false true rest longer same e = e ∙ ap (λ (k : ℕ). rest ++ k ∷ []) same
more_step at m n false false rest longer same e = e

-- one rule more stands at the end of its class
places_from_more : (at : ℕ) (test : Rule → Bool) (rules : List Rule) (r : Rule)
    → places_from at test (rules ++ r ∷ []) ≡ (if test r then places_from at test rules ++ (at + length rules) ∷ [] else places_from at test rules)
places_from_more at test [] r = ap (λ (n : ℕ). if test r then n ∷ [] else []) (omega arith)
places_from_more at test (rule ∷ rules) r = more_step at (at + 1 + length rules) _ (test rule) (test r) _ _ (omega arith) (places_from_more (at + 1) test rules r)

places_more : (test : Rule → Bool) (rules : List Rule) (r : Rule)
    → places_of test (rules ++ r ∷ []) ≡ (if test r then places_of test rules ++ length rules ∷ [] else places_of test rules)
places_more test rules r =
    places_from_more 0 test rules r ∙ ap (λ (n : ℕ). if test r then places_of test rules ++ n ∷ [] else places_of test rules) (omega arith)

-- one rule more that is filed under its code, behind the others
pub filed_more : (code_of : Rule → ℕ) (rules : List Rule) (i : ℕ) (r : Rule) (old new : List (ℕ × List ℕ))
    → AreFiled (λ code rule. nat_eq code (code_of rule)) (take i rules) old
    → i < length rules → r ≡ get_or rules i r
    → ((other : ℕ) → filed other new ≡ (if nat_eq (code_of r) other then filed other old ++ i ∷ [] else filed other old))
    → AreFiled (λ code rule. nat_eq code (code_of rule)) (take (i + 1) rules) new
filed_more code_of rules i r old new h within at grew = record { places = under }
  where
    taken : take (i + 1) rules ≡ take i rules ++ r ∷ []
    taken = take_more rules i r within ∙ ap (λ (x : Rule). take i rules ++ x ∷ []) (sym at)

    same : (m n : ℕ) → nat_eq m n ≡ nat_eq n m
    same m n = grind (arith, nat_tests)

    count : i ≡ length (take i rules)
    count = omega (arith, length-take i rules)

    under : (code : ℕ) → filed code new ≡ places_of (λ rule. nat_eq code (code_of rule)) (take (i + 1) rules)
    under code =
        let test = λ (rule : Rule). nat_eq code (code_of rule) in
        grew code
        ∙ ap (λ (b : Bool). if b then filed code old ++ i ∷ [] else filed code old) (same (code_of r) code)
        ∙ ap₂ (λ (places : List ℕ) (n : ℕ). if test r then places ++ n ∷ [] else places) (h.places code) count
        ∙ sym (places_more test (take i rules) r)
        ∙ ap (places_of test) (sym taken)
