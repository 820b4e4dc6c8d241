use Rattle.sip_verdict.proofs.Deciding.{allowed, by_hop}
use Rattle.sip_verdict.proofs.policy.decided.Goals as goal

pub returns-in-Allow-clause-outcome : goal.returns-in-Allow-clause-outcome
returns-in-Allow-clause-outcome g c =
    allowed c.let_through.result c.args.judge.now c.args.locations.now.rows c.args.request.now.moment c.args.request.now.message.now c.args.request.now.method.now
    c.args.request.now.core.now c.args.question.now c.in-Allow.id c.args.decision.now c.in-Allow.is c.let_through.ensures.outcome

pub returns-in-Via-clause-outcome : goal.returns-in-Via-clause-outcome
returns-in-Via-clause-outcome g c =
    by_hop c.let_through-in-Via.result c.args.judge.now c.args.locations.now.rows c.args.request.now.moment c.args.request.now.message.now c.args.request.now.method.now
    c.args.request.now.core.now c.args.question.now c.in-Via.id c.in-Via.field-1 c.args.decision.now c.in-Via.is c.let_through-in-Via.ensures.outcome
