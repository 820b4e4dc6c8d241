-- Tests that agree on the rules of a list.
use Rattle.std.proofs.Common.{◌≡◌, Bool, true, false, ◌&&◌, List, [], ◌∷◌, refl, ap, ap₂, ◌∙◌}
use Rattle.std.specs.Bool.{beq}
use Rattle.std.specs.List.{list_all}
use Rattle.std.proofs.lemmas.Bool.{and_parts, and_from}
use Rattle.sip_policy.specs.declared.rule.Rule.{Rule}

-- two answers that agree are the same
pub agree_same : (a b : Bool) → beq a b ≡ true → a ≡ b
agree_same true true e = refl
agree_same true false e = absurd cc
agree_same false true e = absurd cc
agree_same false false e = refl

pub agree_itself : (a : Bool) → beq a a ≡ true
agree_itself true = refl
agree_itself false = refl

pub agree_from : (a b : Bool) → a ≡ b → beq a b ≡ true
agree_from a b e = ap (λ (x : Bool). beq x b) e ∙ agree_itself b

-- tests that are the same at each rule agree
pub all_agree : (one other : Rule → Bool) → ((rule : Rule) → one rule ≡ other rule) → (rules : List Rule)
    → list_all (λ (rule : Rule). beq (one rule) (other rule)) rules ≡ true
all_agree one other same [] = refl
all_agree one other same (r ∷ rs) = and_from _ _ (agree_from (one r) (other r) (same r)) (all_agree one other same rs)

-- where the tests of two elements agree, those of the first agree with a third's exactly where those of the second do
pub agree_over : {X : Type 0} (test : X → Rule → Bool) (x y z : X) (rules : List Rule) → list_all (λ (rule : Rule). beq (test x rule) (test y rule)) rules ≡ true
    → list_all (λ (rule : Rule). beq (test x rule) (test z rule)) rules ≡ list_all (λ (rule : Rule). beq (test y rule) (test z rule)) rules
agree_over test x y z [] e = refl
agree_over test x y z (r ∷ rs) e =
    let both = and_parts (beq (test x r) (test y r)) (list_all (λ (rule : Rule). beq (test x rule) (test y rule)) rs) e in
    ap₂ (λ (a b : Bool). beq a (test z r) && b) (agree_same (test x r) (test y r) both.0) (agree_over test x y z rs both.1)
