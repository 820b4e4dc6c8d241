use Rattle.std.proofs.Common.{refl}
use Rattle.sip_uas.proofs.Answered.{opens_final, bound_with}
use Rattle.sip_uas.proofs.judged_request.JudgedRequest.bound.Goals as goal

pub returns-clause-does : goal.returns-clause-does
returns-clause-does c =
    let r = c.args.self in
    bound_with r.server.now r.request.arrival r.request.request.message r.judged.now.question r.judged.now.minute r.is_full c.answered_by_rule.result c.args.rule
    c.in_ok-extras.extras
    c.args.plan.now
    c.in_ok-extras.ensures.registered c.answered_by_rule.ensures.does

pub returns-clause-opens : goal.returns-clause-opens
returns-clause-opens c = opens_final c.answered_by_rule.result c.args.self.request.arrival c.args.self.request.key 200 refl c.answered_by_rule.ensures.opens
