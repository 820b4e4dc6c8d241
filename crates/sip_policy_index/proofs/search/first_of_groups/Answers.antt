use Rattle.std.proofs.Common.{take, ◌+◌, ap₂, ◌∙◌}
use Rattle.sip_policy_index.specs.Code.{text_code, is_of_class, is_of_classes, group_codes}
use Rattle.sip_policy_index.specs.RuleQuestion.{applies_to}
use Rattle.sip_policy_index.proofs.Classes.{more_groups}
use Rattle.sip_policy_index.proofs.Least.{least_of_none, least_of_more}
use Rattle.sip_policy_index.proofs.search.first_of_groups.Goals as goal

pub loop-group-init : goal.loop-group-init
loop-group-init c = least_of_none (applies_to c.args.asked.now) c.args.asked.now.rules.now c.args.best c.requires.within

pub loop-group-preserved : goal.loop-group-preserved
loop-group-preserved c =
    let test = applies_to c.args.asked.now in
    let rules = c.args.asked.now.rules.now in
    let groups = c.args.groups.now in
    let operation = c.args.operation in
    let i = c.loop-group.group-index in
    let code = c.text_code-code.result in
    least_of_more test (is_of_classes (group_codes operation (take i groups))) (is_of_class code) (is_of_classes (group_codes operation (take (i + 1) groups))) rules
    c.args.best c.loop-group.least c.first_below-least.result
    c.loop-group.invariant (c.first_below-least.ensures.first (is_of_class code) (c.of.ensures ∙ c.requires.filed.places code))
    (more_groups operation groups i code c.group-item.result c.loop-group-test.true c.group-item.is
    (c.text_code-code.ensures ∙ ap₂ text_code c.mixed-start.ensures c.as_slice.ensures))
