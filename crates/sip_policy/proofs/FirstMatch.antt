-- The first rule of a list that passes a test.
use Rattle.std.proofs.Common.{◌≡◌, ℕ, Bool, true, false, ◌&&◌, ◌||◌, nat_lt, List, [], ◌∷◌, ◌++◌, Option, Some, None, refl, sym, ap, subst, ◌∙◌, find, if◌then◌else◌}
use Rattle.std.specs.List.{list_all, list_any}
use Rattle.sip_policy.specs.declared.rule.Rule.{Rule}
use Rattle.sip_policy.specs.declared.rule_verdict.RuleVerdict.{RuleVerdict}
use Rattle.sip_policy.specs.declared.decision.Decision.{Decision}
use Rattle.sip_policy.specs.Rule.{IsFirst, is_numbered, needs_no_proof}
use Rattle.sip_policy.specs.Decision.{decision_for, decision_by}

or_neither : (a b : Bool) → (a || b) ≡ false → (a ≡ false) × (b ≡ false)
or_neither true b e = absurd cc
or_neither false b e = (refl, e)

pub and_both : (a b : Bool) → (a && b) ≡ true → (a ≡ true) × (b ≡ true)
and_both true b e = (refl, e)
and_both false b e = absurd cc

-- it is what `find` finds
pub find_first : (test : Rule → Bool) (before after : List Rule) (rule : Rule) → list_any test before ≡ false → test rule ≡ true
    → find test (before ++ rule ∷ after) ≡ Some rule
find_first test [] after rule none passes = rw passes refl
find_first test (r ∷ before) after rule none passes =
    let both = or_neither (test r) (list_any test before) none in
    rw both.0 (find_first test before after rule both.1 passes)

pub find_none : (test : Rule → Bool) (rules : List Rule) → list_any test rules ≡ false → find test rules ≡ None
find_none test [] none = refl
find_none test (r ∷ rules) none =
    let both = or_neither (test r) (list_any test rules) none in
    rw both.0 (find_none test rules both.1)

later : (test : Rule → Bool) (r : Rule) (rules : List Rule) → test r ≡ false → (rule : Rule) × IsFirst test rules rule → (rule : Rule) × IsFirst test (r ∷ rules) rule
later test r rules fails found =
    let f = found.1 in (
      found.0,
      record {
        before = r ∷ f.before;
        after = f.after;
        split = ap (λ (rest : List Rule). r ∷ rest) f.split;
        none_before = rw fails f.none_before;
        passes = f.passes;
      },
    )

first_by : (test : Rule → Bool) (r : Rule) (rules : List Rule) (passes : Bool) → test r ≡ passes → (list_any test rules ≡ true → (rule : Rule) × IsFirst test rules rule)
    → list_any test (r ∷ rules) ≡ true → (rule : Rule) × IsFirst test (r ∷ rules) rule
first_by test r rules true is on some = (r, record { before = []; after = rules; split = refl; none_before = refl; passes = is })
first_by test r rules false is on some =
    let rest : list_any test rules ≡ true = sym (rw is refl) ∙ some in
    later test r rules is (on rest)

-- there is one where some rule passes
pub there_is_first : (test : Rule → Bool) (rules : List Rule) → list_any test rules ≡ true → (rule : Rule) × IsFirst test rules rule
there_is_first test [] some = absurd cc
there_is_first test (r ∷ rules) some = first_by test r rules (test r) refl (there_is_first test rules) some

all_at : (test : Rule → Bool) (before after : List Rule) (rule : Rule) → list_all test (before ++ rule ∷ after) ≡ true → test rule ≡ true
all_at test [] after rule all = (and_both (test rule) (list_all test after) all).0
all_at test (r ∷ before) after rule all = all_at test before after rule (and_both (test r) (list_all test (before ++ rule ∷ after)) all).1

-- a numbered rule never denies as rule 0
for_never_zero : (id : ℕ) (verdict : RuleVerdict) → nat_lt 0 id ≡ true → decision_for id verdict ≡ Decision.Deny 0 → ⊥
for_never_zero id RuleVerdict.Allow numbered e = cc
for_never_zero id RuleVerdict.Deny numbered e =
    let zero_id : id ≡ 0 = cc in
    let IsAbove : ℕ → Type 0 = λ n. nat_lt 0 n ≡ true in
    let never : nat_lt 0 0 ≡ true = subst IsAbove zero_id numbered in
    cc
for_never_zero id (RuleVerdict.Via hop) numbered e = cc

nobody_never_zero : (rule : Rule) (needs_none : Bool) → is_numbered rule ≡ true → (if needs_none then decision_for rule.id rule.verdict else Decision.Challenge)
    ≡ Decision.Deny 0 → ⊥
nobody_never_zero rule true numbered e = for_never_zero rule.id rule.verdict numbered e
nobody_never_zero rule false numbered e = cc

pub by_never_zero : (proven : Option (List ℕ)) (rule : Rule) → is_numbered rule ≡ true → decision_by proven rule ≡ Decision.Deny 0 → ⊥
by_never_zero (Some name) rule numbered e = for_never_zero rule.id rule.verdict numbered e
by_never_zero None rule numbered e = nobody_never_zero rule (needs_no_proof rule) numbered e

pub first_is_numbered : (test : Rule → Bool) (rules : List Rule) (rule : Rule) → IsFirst test rules rule → list_all is_numbered rules ≡ true → is_numbered rule ≡ true
first_is_numbered test rules rule f all = all_at is_numbered f.before f.after rule (sym (ap (list_all is_numbered) f.split) ∙ all)

pub found_first : (test : Rule → Bool) (rules : List Rule) (rule : Rule) → IsFirst test rules rule → find test rules ≡ Some rule
found_first test rules rule f = rw f.split (find_first test f.before f.after rule f.none_before f.passes)
