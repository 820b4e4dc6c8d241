use Rattle.sip_uas.proofs.Answered.{planned_with}
use Rattle.sip_uas.proofs.Serving.{registers_planned, opens_planned, registers_refused, opens_refused}
use Rattle.sip_uas.proofs.judged_request.JudgedRequest.registering.Goals as goal

pub returns-in-Planned-clause-does : goal.returns-in-Planned-clause-does
returns-in-Planned-clause-does c =
    let r = c.args.self in
    registers_planned r.server.now r.request.arrival r.request.request.message r.request.key r.judged.now.question r.judged.now.minute r.is_full c.bound.result
    c.args.rule c.in-Planned.plan
    c.args.outcome.now c.in-Planned.is
    (planned_with r.server.now r.request.arrival r.request.request.message r.judged.now.question r.judged.now.minute r.is_full c.bound.result c.args.rule
    c.in-Planned.plan c.bound.ensures.does)

pub returns-in-Planned-clause-opens : goal.returns-in-Planned-clause-opens
returns-in-Planned-clause-opens c =
    let r = c.args.self in
    opens_planned r.server.now r.request.arrival r.request.request.message r.request.key r.judged.now.question r.judged.now.minute r.is_full c.bound.result
    c.args.outcome.now c.bound.ensures.opens

pub returns-in-Refused-clause-does : goal.returns-in-Refused-clause-does
returns-in-Refused-clause-does c =
    let r = c.args.self in
    registers_refused r.server.now r.request.arrival r.request.request.message r.request.key r.judged.now.question r.judged.now.minute r.is_full c.answered_by_rule.result
    c.args.rule c.in-Refused.status
    c.in-Refused.extras
    c.args.outcome.now c.in-Refused.is c.answered_by_rule.ensures.does

pub returns-in-Refused-clause-opens : goal.returns-in-Refused-clause-opens
returns-in-Refused-clause-opens c =
    let r = c.args.self in
    opens_refused r.server.now r.request.arrival r.request.request.message r.request.key r.judged.now.question r.judged.now.minute r.is_full c.answered_by_rule.result
    c.in-Refused.status
    c.in-Refused.extras c.args.outcome.now
    c.in-Refused.is c.answered_by_rule.ensures.opens
