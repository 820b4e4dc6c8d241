use Rattle.sip_verdict.proofs.Deciding.{asked}
use Rattle.sip_verdict.proofs.policy.policy_verdict.Goals as goal

pub returns-in-Ok-clause-outcome : goal.returns-in-Ok-clause-outcome
returns-in-Ok-clause-outcome g c =
    asked c.judged.result c.args.judge.now c.args.locations.now.rows c.args.nonces.now c.args.request.now.moment c.args.request.now.message.now
    c.args.request.now.method.now c.args.request.now.core.now c.in-Ok.question c.in-Ok.ensures c.judged.ensures.question c.judged.ensures.outcome
