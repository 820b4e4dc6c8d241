use Rattle.std.proofs.Common.{refl}
use Rattle.sip_verdict.proofs.Outcomes.{refuses}
use Rattle.sip_verdict.proofs.registration.planned.Goals as goal

pub returns-in-Ok-clause-outcome : goal.returns-in-Ok-clause-outcome
returns-in-Ok-clause-outcome c = record { is_for = c.in-Ok.ensures.plan.1; registration = c.args.registration; is_plan = c.in-Ok.ensures.plan; comes_to = refl }

pub returns-clause-outcome : goal.returns-clause-outcome
returns-clause-outcome c = refuses c.refused_by.result _ _ c.args.registration _ c.in-Err.ensures.refused c.refused_by.ensures.outcome c.refused_by.ensures.memory
