use Rattle.std.proofs.Common.{◌||◌, length, refl, ap, ◌∙◌}
use Rattle.std.specs.Option.{option_copied}
use Rattle.sip_policy.specs.declared.operation.Operation.{Operation}
use Rattle.sip_policy.specs.declared.rule.Rule.{Rule}
use Rattle.sip_policy_index.specs.Code.{text_code}
use Rattle.sip_policy_index.specs.RuleQuestion.{applies_to, is_looked_at}
use Rattle.sip_policy_index.proofs.Classes.{registers, lists, looked_at_one, looked_at_either}
use Rattle.sip_policy_index.proofs.Least.{least_of_more, least_of_all}
use Rattle.sip_policy_index.proofs.search.first_place.Goals as goal

pub returns-in-Register : goal.returns-in-Register
returns-in-Register c =
    let asked = c.args.asked.now in
    least_of_all (applies_to asked) (is_looked_at (option_copied asked.proven) asked.groups.now 1) asked.rules.now c.first_of_pattern.result c.first_of_pattern.ensures
    (looked_at_one asked c.requires.groups Operation.Register c.in-Register.is 1 registers)

pub returns-in-List : goal.returns-in-List
returns-in-List c =
    let asked = c.args.asked.now in
    least_of_all (applies_to asked) (is_looked_at (option_copied asked.proven) asked.groups.now 2) asked.rules.now c.first_of_pattern-in-List.result
    c.first_of_pattern-in-List.ensures
    (looked_at_one asked c.requires.groups Operation.List c.in-List.is 2 lists)

pub returns-in-Send : goal.returns-in-Send
returns-in-Send c =
    let asked = c.args.asked.now in
    let test = applies_to asked in
    let rules = asked.rules.now in
    let own = is_looked_at (option_copied asked.proven) asked.groups.now c.text_code-own.result in
    let any = is_looked_at (option_copied asked.proven) asked.groups.now 3 in
    let either = λ (rule : Rule). own rule || any rule in
    least_of_all test either rules c.first_of_pattern-in-Send.result
    (least_of_more test own any either rules (length rules) c.first_of_pattern-best.result c.first_of_pattern-in-Send.result c.first_of_pattern-best.ensures
    c.first_of_pattern-in-Send.ensures (λ rule. refl))
    (looked_at_either asked c.requires.groups c.in-Send.method c.in-Send.is c.text_code-own.result (c.text_code-own.ensures ∙ ap (text_code 4) c.as_slice.ensures))
