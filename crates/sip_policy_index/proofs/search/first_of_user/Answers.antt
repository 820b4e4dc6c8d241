use Rattle.std.proofs.Common.{◌||◌, refl, ap, ◌∙◌}
use Rattle.sip_policy.specs.declared.rule.Rule.{Rule}
use Rattle.sip_policy_index.specs.Code.{text_code, is_of_class, is_of_classes, group_codes, class_codes}
use Rattle.sip_policy_index.specs.RuleQuestion.{applies_to}
use Rattle.sip_policy_index.proofs.Classes.{users_classes}
use Rattle.sip_policy_index.proofs.Least.{least_of_more}
use Rattle.sip_policy_index.proofs.search.first_of_user.Goals as goal

pub returns : goal.returns
returns c =
    let test = applies_to c.args.asked.now in
    let rules = c.args.asked.now.rules.now in
    let groups = c.args.asked.now.groups.now in
    let operation = c.args.operation in
    let each = c.mixed-each.result in
    let own = c.text_code-own.result in
    let either = λ (rule : Rule). is_of_class each rule || is_of_class own rule in
    least_of_more test either (is_of_classes (group_codes operation groups)) (is_of_classes (class_codes c.args.name.now groups operation)) rules c.args.best
    c.first_below-best-2.result c.first_of_groups.result
    (least_of_more test (is_of_class each) (is_of_class own) either rules c.args.best c.first_below-best.result c.first_below-best-2.result
    (c.first_below-best.ensures.first (is_of_class each) (c.of.ensures ∙ c.requires.filed.places each))
    (c.first_below-best-2.ensures.first (is_of_class own) (c.of-2.ensures ∙ c.requires.filed.places own)) (λ rule. refl))
    c.first_of_groups.ensures
    (users_classes operation each own c.args.name.now groups c.mixed-each.ensures (c.text_code-own.ensures ∙ ap (λ n. text_code n c.args.name.now) c.mixed.ensures))
