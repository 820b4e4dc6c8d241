-- The least place of a rule of some class that passes a test.
use Rattle.std.proofs.Common.{◌≡◌, ℕ, Bool, true, false, ◌&&◌, ◌||◌, not, cond, if◌then◌else◌, nat_lt, ◌+◌, ◌≤◌, ◌<◌, min, length, drop, get_or, slice_get, find, Option}
use Rattle.std.proofs.Common.{List, [], ◌∷◌, refl, sym, ap, ◌∙◌, arith}
use Rattle.std.proofs.lemmas.List.{drop-drop, drop_more, drop_all}
use Rattle.std.proofs.lemmas.List.Folds.{find_at}
use Rattle.std.proofs.lemmas.List.Sums.{prefix_len-le-length}
use Rattle.std.proofs.lemmas.Bool.Decides.{nat_tests}
use Rattle.sip_policy.specs.declared.rule.Rule.{Rule}
use Rattle.sip_policy_index.specs.Places.{places_from, places_of, first_place}

-- whether the first of some rules passes a test
abbrev pub begins : (Rule → Bool) → List Rule → Bool
begins test [] = false
begins test (rule ∷ rules) = test rule

-- the first of some places below a limit at which a rule passes a test, or the limit; looked for up to the first place that isn't below it
abbrev pub first_below : (Rule → Bool) → List Rule → ℕ → List ℕ → ℕ
first_below test rules limit [] = limit
first_below test rules limit (at ∷ places) = cond (nat_lt at limit) (cond (begins test (drop at rules)) at (first_below test rules limit places)) limit

below_if : (test : Rule → Bool) (rules : List Rule) (limit at : ℕ) (rest : List ℕ) (is : Bool)
    → first_below test rules limit (if is then at ∷ rest else rest) ≡ cond is (cond (nat_lt at limit)
    (cond (begins test (drop at rules)) at (first_below test rules limit rest)) limit) (first_below test rules limit rest)
below_if test rules limit at rest true = refl
below_if test rules limit at rest false = refl

step : (limit at rest further : ℕ) (is passes : Bool) → rest ≡ min limit (at + 1 + further)
    → cond is (cond (nat_lt at limit) (cond passes at rest) limit) rest ≡ min limit (at + cond (not (is && passes)) (1 + further) 0)
step limit at rest further false passes e = omega arith
step limit at rest further true true e = grind (arith, nat_tests)
step limit at rest further true false e = grind (arith, nat_tests)

drop_next : (n : ℕ) (all : List Rule) (r : Rule) (rs : List Rule) → drop n all ≡ r ∷ rs → drop (n + 1) all ≡ rs
drop_next n all r rs e = sym (drop-drop 1 n all) ∙ ap (drop 1) e

least_from : (test class : Rule → Bool) (all : List Rule) (limit at : ℕ) (rules : List Rule) → drop at all ≡ rules → limit ≤ at + length rules
    → first_below test all limit (places_from at class rules) ≡ min limit (at + first_place (λ (rule : Rule). class rule && test rule) rules)
least_from test class all limit at [] is within = omega arith
least_from test class all limit at (r ∷ rs) is within =
    let rest = first_below test all limit (places_from (at + 1) class rs) in
    let further = first_place (λ (rule : Rule). class rule && test rule) rs in
    below_if test all limit at (places_from (at + 1) class rs) (class r)
    ∙ ap (λ (passes : Bool). cond (class r) (cond (nat_lt at limit) (cond passes at rest) limit) rest) (ap (begins test) is)
    ∙ step limit at rest further (class r) (test r) (least_from test class all limit (at + 1) rs (drop_next at all r rs is) (omega arith))

-- of the places of a class, the first below a limit is the place of its first rule that passes, or the limit
pub least : (test class : Rule → Bool) (rules : List Rule) (limit : ℕ) → limit ≤ length rules
    → first_below test rules limit (places_of class rules) ≡ min limit (first_place (λ (rule : Rule). class rule && test rule) rules)
least test class rules limit within = least_from test class rules limit 0 rules refl (omega arith) ∙ ap (min limit) (omega arith)

either_step : (one other passes : Bool) (m n k : ℕ) → min m n ≡ k
    → min (cond (not (one && passes)) (1 + m) 0) (cond (not (other && passes)) (1 + n) 0) ≡ cond (not ((one || other) && passes)) (1 + k) 0
either_step true true true m n k e = omega arith
either_step true false true m n k e = omega arith
either_step true true false m n k e = omega arith
either_step true false false m n k e = omega arith
either_step false true true m n k e = omega arith
either_step false true false m n k e = omega arith
either_step false false passes m n k e = omega arith

-- the first rule of one of two classes is the first of the one or of the other
first_of_either : (test one other : Rule → Bool) (rules : List Rule)
    → min (first_place (λ (rule : Rule). one rule && test rule) rules) (first_place (λ (rule : Rule). other rule && test rule) rules)
    ≡ first_place (λ (rule : Rule). (one rule || other rule) && test rule) rules
first_of_either test one other [] = omega arith
first_of_either test one other (r ∷ rs) = either_step (one r) (other r) (test r) _ _ _ (first_of_either test one other rs)

-- of no rule it is the end
first_of_none : (test : Rule → Bool) (rules : List Rule) → first_place (λ (rule : Rule). false && test rule) rules ≡ length rules
first_of_none test [] = refl
first_of_none test (r ∷ rs) = ap (λ (n : ℕ). 1 + n) (first_of_none test rs) ∙ omega arith

-- two tests that agree are passed first at the same place
pub first_same : (one other : Rule → Bool) (rules : List Rule) → ((rule : Rule) → one rule ≡ other rule) → first_place one rules ≡ first_place other rules
first_same one other rules same = ap (λ (test : Rule → Bool). first_place test rules) (λ j rule. same rule j)

pub least_of_none : (test : Rule → Bool) (rules : List Rule) (limit : ℕ) → limit ≤ length rules
    → limit ≡ min limit (first_place (λ (rule : Rule). false && test rule) rules)
least_of_none test rules limit within = let none = first_of_none test rules in omega arith

-- the least of a class and of another is that of both
pub least_of_more : (test one other both : Rule → Bool) (rules : List Rule) (limit least more : ℕ)
    → least ≡ min limit (first_place (λ (rule : Rule). one rule && test rule) rules)
    → more ≡ min least (first_place (λ (rule : Rule). other rule && test rule) rules)
    → ((rule : Rule) → (one rule || other rule) ≡ both rule)
    → more ≡ min limit (first_place (λ (rule : Rule). both rule && test rule) rules)
least_of_more test one other both rules limit least more e f same =
    let either = first_of_either test one other rules in
    let joined : more ≡ min limit (first_place (λ (rule : Rule). (one rule || other rule) && test rule) rules) = omega arith in
    joined ∙ ap (min limit) (first_same (λ (rule : Rule). (one rule || other rule) && test rule) (λ (rule : Rule). both rule && test rule) rules
    (λ rule. ap (λ (b : Bool). b && test rule) (same rule)))

and_given : (class test : Bool) → (test ≡ true → class ≡ true) → (class && test) ≡ test
and_given true test h = refl
and_given false true h = h refl
and_given false false h = refl

-- where each rule that passes is of a class, the class is nothing more to ask
pub least_of_all : (test class : Rule → Bool) (rules : List Rule) (found : ℕ)
    → found ≡ min (length rules) (first_place (λ (rule : Rule). class rule && test rule) rules)
    → ((rule : Rule) → test rule ≡ true → class rule ≡ true) → found ≡ first_place test rules
least_of_all test class rules found e h =
    let same = first_same (λ (rule : Rule). class rule && test rule) test rules (λ rule. and_given (class rule) (test rule) (h rule)) in
    let within = prefix_len-le-length (λ (rule : Rule). not (test rule)) rules in
    omega arith

-- a place that isn't below the limit ends the search
pub stops : (test : Rule → Bool) (rules : List Rule) (limit : ℕ) (places : List ℕ) (i : ℕ) → i < length places → limit ≤ get_or places i 0
    → first_below test rules limit (drop i places) ≡ limit
stops test rules limit places i within past = rw (drop_more places i 0 within) (by (get_or places i 0) past)
  where
    by : (at : ℕ) → limit ≤ at → first_below test rules limit (at ∷ drop (i + 1) places) ≡ limit
    by at h = grind (arith, nat_tests)

-- so does one whose rule passes
pub finds : (test : Rule → Bool) (rules : List Rule) (limit : ℕ) (places : List ℕ) (i : ℕ) (rule : Rule) → i < length places → get_or places i 0 < limit
    → limit ≤ length rules
    → rule ≡ get_or rules (get_or places i 0) rule → test rule ≡ true → first_below test rules limit (drop i places) ≡ get_or places i 0
finds test rules limit places i rule within below most is passes = rw (drop_more places i 0 within) (by (get_or places i 0) below is)
  where
    by : (at : ℕ) → at < limit → rule ≡ get_or rules at rule → first_below test rules limit (at ∷ drop (i + 1) places) ≡ at
    by at h there =
        let here : begins test (drop at rules) ≡ true = ap (begins test) (drop_more rules at rule (omega arith)) ∙ ap test (sym there) ∙ passes in
        rw here (grind (arith, nat_tests))

pub ends : (test : Rule → Bool) (rules : List Rule) (limit : ℕ) (places : List ℕ) (i : ℕ) → length places ≤ i → first_below test rules limit (drop i places) ≡ limit
ends test rules limit places i past = ap (first_below test rules limit) (drop_all i places past)

-- what the rest of a class's places leads to is the least of the class
pub found_least : (test class : Rule → Bool) (rules : List Rule) (limit found : ℕ) (places rest : List ℕ) → limit ≤ length rules
    → first_below test rules limit rest ≡ found → first_below test rules limit rest ≡ first_below test rules limit places → places ≡ places_of class rules
    → found ≡ min limit (first_place (λ (rule : Rule). class rule && test rule) rules)
found_least test class rules limit found places rest within leads same are =
    sym leads ∙ same ∙ ap (first_below test rules limit) are ∙ least test class rules limit within

-- the rule at the first place is the first
pub rule_at : (test : Rule → Bool) (rules : List Rule) (place : ℕ) (got : Option Rule) → got ≡ slice_get rules place → place ≡ first_place test rules
    → got ≡ find test rules
rule_at test rules place got at is = at ∙ ap (slice_get rules) is ∙ sym (find_at test rules)
