use Rattle.std.proofs.Common.{◌≡◌, ◌&&◌, min, take}
use Rattle.sip_policy_index.specs.Code.{is_of_classes, group_codes}
use Rattle.sip_policy_index.specs.Places.{first_place}
use Rattle.sip_policy_index.specs.RuleQuestion.{applies_to}
use Rattle.sip_policy_index.proofs.search.first_of_groups.Given as goal

-- the least for the groups so far
abbrev pub invariant-loop-group : goal.invariant-loop-group
invariant-loop-group l =
    l.least ≡ min l.best (first_place (λ rule. is_of_classes (group_codes l.operation (take l.group-index l.groups)) rule && applies_to l.asked rule) l.asked.rules.now)
