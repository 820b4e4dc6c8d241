use Rattle.std.proofs.Common.{sym, subst}
use Rattle.sip_policy.specs.declared.decision.Decision.{Decision}
use Rattle.model_verdict.specs.Verdict as Definition
use Rattle.sip_verdict.specs.Verdict.{IsOutcome}
use Rattle.sip_verdict.specs.declared.verdict.Judged.{Judged}
use Rattle.sip_verdict.proofs.policy.judged.Goals as goal

pub returns-in-Ok-clause-outcome : goal.returns-in-Ok-clause-outcome
returns-in-Ok-clause-outcome g c =
    λ state same.
    subst (λ (j : Judged). IsOutcome c.args.locations.now.rows c.args.request.now.moment j.question
    (Definition.decided c.args.judge.now state c.args.request.now.moment c.args.request.now.message.now c.args.request.now.method.now c.args.request.now.core.now
    j.question (Definition.answer_of c.args.judge.now j.question)) j.outcome) (sym c.in_ok-held-in-Ok.ensures)
    (subst (λ (d : Decision). IsOutcome c.args.locations.now.rows c.args.request.now.moment c.args.question
    (Definition.decided c.args.judge.now state c.args.request.now.moment c.args.request.now.message.now c.args.request.now.method.now c.args.request.now.core.now
    c.args.question d) c.in-Ok.outcome) c.ruling-ruling.ensures.decision (c.in-Ok.ensures.outcome state same))
