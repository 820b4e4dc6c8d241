use Rattle.std.proofs.Common.{◌≡◌, ℕ, Bool, true, false, List, Option, refl, sym, ap, ◌∙◌}
use Rattle.std.specs.List.{list_all, list_any}
use Rattle.sip_uri.specs.declared.aor.Aor.{Aor}
use Rattle.sip_policy.specs.declared.decision.Decision.{Decision}
use Rattle.sip_policy.specs.declared.operation.Operation.{Operation}
use Rattle.sip_policy.specs.declared.user.User.{User}
use Rattle.sip_policy.specs.declared.rule.Rule.{Rule}
use Rattle.sip_policy.specs.Rule.{IsFirst, applies, is_numbered}
use Rattle.sip_policy.specs.Decision.{decision_of, decision_by, decision_with}
use Rattle.sip_policy.proofs.FirstMatch.{found_first, find_none, there_is_first, by_never_zero, first_is_numbered}
use Rattle.sip_policy.proofs.laws.first_match_decides.Goals as goal

first : (rules : List Rule) (users : List User) (domains : List (List ℕ)) (proven : Option (List ℕ)) (operation : Operation) (aor : Aor) (minute : ℕ) (rule : Rule)
    → IsFirst (applies users domains proven operation aor minute) rules rule → decision_of rules users domains proven operation aor minute ≡ decision_by proven rule
first rules users domains proven operation aor minute rule f =
    ap (decision_with proven) (found_first (applies users domains proven operation aor minute) rules rule f)

none : (rules : List Rule) (users : List User) (domains : List (List ℕ)) (proven : Option (List ℕ)) (operation : Operation) (aor : Aor) (minute : ℕ)
    → list_any (applies users domains proven operation aor minute) rules ≡ false → decision_of rules users domains proven operation aor minute ≡ Decision.Deny 0
none rules users domains proven operation aor minute e =
    ap (decision_with proven) (find_none (applies users domains proven operation aor minute) rules e)

zero_by : (rules : List Rule) (users : List User) (domains : List (List ℕ)) (proven : Option (List ℕ)) (operation : Operation) (aor : Aor) (minute : ℕ) (some : Bool)
    → list_any (applies users domains proven operation aor minute) rules ≡ some → list_all is_numbered rules ≡ true
    → decision_of rules users domains proven operation aor minute ≡ Decision.Deny 0 → some ≡ false
zero_by rules users domains proven operation aor minute false is numbered e = refl
zero_by rules users domains proven operation aor minute true is numbered e =
    let test = applies users domains proven operation aor minute in
    let found = there_is_first test rules is in
    absurd (by_never_zero proven found.0 (first_is_numbered test rules found.0 found.1 numbered)
    (sym (first rules users domains proven operation aor minute found.0 found.1) ∙ e))

pub returns-clause-first : goal.returns-clause-first
returns-clause-first c = first

pub returns-clause-there_is_one : goal.returns-clause-there_is_one
returns-clause-there_is_one c = λ rules users domains proven operation aor minute some. there_is_first (applies users domains proven operation aor minute) rules some

pub returns-clause-rule_zero : goal.returns-clause-rule_zero
returns-clause-rule_zero c = λ rules users domains proven operation aor minute numbered. (
  zero_by rules users domains proven operation aor minute (list_any (applies users domains proven operation aor minute) rules) refl numbered,
  none rules users domains proven operation aor minute,
)
