use Rattle.std.proofs.Common.{ℕ, [], ◌∷◌, ◌++◌, nat_eq, if◌then◌else◌, ap, ◌∙◌}
use Rattle.sip_policy.specs.declared.rule.Rule.{Rule}
use Rattle.sip_policy_index.specs.Code.{operation_code, class_code}
use Rattle.sip_policy_index.specs.Places.{filed}
use Rattle.sip_policy_index.proofs.Filing.{filed_more}
use Rattle.sip_policy_index.proofs.places.RulePlaces.by_class.Goals as goal

pub loop-at-preserved : goal.loop-at-preserved
loop-at-preserved c =
    filed_more (λ (rule : Rule). class_code (operation_code rule.operation) rule.who) c.args.rules.now c.loop-at.at c.index-rules-at.result c.loop-at.places
    c.file.new.self c.loop-at.invariant c.loop-at-test.true c.index-rules-at.is
    (λ other. c.in_ok-file.ensures other ∙ ap (λ (code : ℕ). if nat_eq code other then filed other c.loop-at.places
    ++ c.loop-at.at ∷ [] else filed other c.loop-at.places) (c.class_code.ensures
    ∙ ap (λ (n : ℕ). class_code n c.index-rules-at.result.who) c.operation_code.ensures))
