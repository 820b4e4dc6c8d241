use Rattle.sip_uas.proofs.Answered.{refused_with}
use Rattle.sip_uas.proofs.judged_request.JudgedRequest.answered_by_rule.Goals as goal

pub returns-clause-does : goal.returns-clause-does
returns-clause-does c =
    let r = c.args.self in
    refused_with r.server.now r.request.arrival r.request.request.message r.judged.now.question r.judged.now.minute r.is_full c.replied.result c.args.rule c.args.status
    c.args.extras.now
    c.replied.ensures.does
