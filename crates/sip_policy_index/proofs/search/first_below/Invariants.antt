use Rattle.std.proofs.Common.{◌≡◌, drop}
use Rattle.sip_policy_index.specs.RuleQuestion.{applies_to}
use Rattle.sip_policy_index.proofs.Least.{first_below}
use Rattle.sip_policy_index.proofs.search.first_below.Given as goal

-- what is found in the rest is what is found in all
abbrev pub invariant-loop-at : goal.invariant-loop-at
invariant-loop-at l =
    first_below (applies_to l.asked) l.asked.rules.now l.best (drop l.at-index l.places) ≡ first_below (applies_to l.asked) l.asked.rules.now l.best l.places
