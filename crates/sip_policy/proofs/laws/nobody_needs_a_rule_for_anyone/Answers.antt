use Rattle.std.proofs.Common.{None, ap, ◌∙◌, refl}
use Rattle.sip_policy.specs.Rule.{applies}
use Rattle.sip_policy.specs.Decision.{decision_with}
use Rattle.sip_policy.proofs.FirstMatch.{found_first}
use Rattle.sip_policy.proofs.laws.nobody_needs_a_rule_for_anyone.Goals as goal

pub returns : goal.returns
returns c = λ rules users domains operation aor minute rule f needs.
    ap (decision_with None) (found_first (applies users domains None operation aor minute) rules rule f) ∙ (rw needs refl)
