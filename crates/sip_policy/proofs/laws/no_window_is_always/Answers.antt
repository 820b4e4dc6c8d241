use Rattle.std.proofs.Common.{ap, sym, ◌∙◌}
use Rattle.sip_policy.specs.Rule.{applies}
use Rattle.sip_policy.specs.Decision.{decision_of, decision_with}
use Rattle.sip_policy.proofs.Windows.{find_always, found_none}
use Rattle.sip_policy.proofs.laws.no_window_is_always.Goals as goal

pub returns-clause-first_match : goal.returns-clause-first_match
returns-clause-first_match c = λ rules users domains proven operation aor minute all.
    ap (decision_with proven) (find_always users domains proven operation aor minute rules all)

pub returns-clause-same : goal.returns-clause-same
returns-clause-same c = λ rules users domains proven operation aor minute other all.
    ap (decision_with proven) (find_always users domains proven operation aor minute rules all)
    ∙ sym (ap (decision_with proven) (find_always users domains proven operation aor other rules all))

pub returns-clause-no_minute : goal.returns-clause-no_minute
returns-clause-no_minute c = λ rules users domains proven operation aor minute all.
    found_none (applies users domains proven operation aor minute) (decision_of rules users domains proven operation aor minute) minute rules all
