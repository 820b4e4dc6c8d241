use Rattle.sip_uas.proofs.Answered.{nobody_final, opens_final, unsent_with}
use Rattle.sip_uas.proofs.judged_request.JudgedRequest.unsent.Goals as goal

pub returns-clause-does : goal.returns-clause-does
returns-clause-does c =
    let r = c.args.self in
    unsent_with r.server.now r.request.arrival r.request.request.message r.judged.now.question r.judged.now.minute r.is_full c.answered_by_rule.result c.args.rule
    c.nobody_status-status.result
    c.new-extras.result c.args.targets.now
    c.requires c.nobody_status-status.ensures c.new-extras.ensures c.answered_by_rule.ensures.does

pub returns-clause-opens : goal.returns-clause-opens
returns-clause-opens c =
    opens_final c.answered_by_rule.result c.args.self.request.arrival c.args.self.request.key c.nobody_status-status.result
    (nobody_final c.args.targets.now c.nobody_status-status.result c.nobody_status-status.ensures) c.answered_by_rule.ensures.opens
