use Rattle.std.proofs.Common.{arith, ◌≡◌, ◌∙◌, ap, ap₂, find, slice_get, List, ℕ, Option}
use Rattle.std.specs.Option.{option_copied}
use Rattle.std.proofs.lemmas.Option.{gets}
use Rattle.sip_policy.specs.declared.rule.Rule.{Rule}
use Rattle.sip_policy.specs.Policy.{Policy}
use Rattle.sip_policy.specs.Rule.{applies}
use Rattle.sip_policy.specs.Decision.{decision_with, minute_for, deciding_rule}
use Rattle.sip_policy_index.proofs.Least.{rule_at}
use Rattle.sip_policy_index.proofs.indexed_rules.IndexedRules.ruling.Goals as goal

pub returns : goal.returns
returns c =
    let proven = option_copied c.args.proven in
    let rules = c.as_slice.result.now in
    let test = applies c.self.inside.users c.as_slice-2.result.now proven c.args.operation.now c.args.aor.now c.args.minute in
    let got : option_copied c.get.result ≡ slice_get rules c.first_place-place.result = grind (arith, gets, c.get.ensures.lookup) in
    let found : option_copied c.get.result ≡ deciding_rule c.args.self.now.rules c.args.self.now.users c.args.self.now.domains proven c.args.operation.now c.args.aor.now
    c.args.minute =
    rule_at test rules c.first_place-place.result (option_copied c.get.result) got c.first_place-place.ensures
    ∙ ap₂ (λ (rs : List Rule) (ds : List (List ℕ)). find (applies c.self.inside.users ds proven c.args.operation.now c.args.aor.now c.args.minute) rs) c.as_slice.ensures
    c.as_slice-2.ensures
    ∙ ap (λ (policy : Policy). deciding_rule policy.rules policy.users policy.domains proven c.args.operation.now c.args.aor.now c.args.minute) c.self.view_is in
    record {
      decision = c.ruling_by.ensures.decision ∙ ap (decision_with proven) found;
      minute = c.ruling_by.ensures.minute ∙ ap (λ (rule : Option Rule). minute_for (decision_with proven rule) c.args.minute rule) found;
    }
