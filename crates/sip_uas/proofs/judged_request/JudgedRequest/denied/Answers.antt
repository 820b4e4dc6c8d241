use Rattle.std.proofs.Common.{refl}
use Rattle.sip_uas.proofs.Answered.{opens_final, denied_with}
use Rattle.sip_uas.proofs.judged_request.JudgedRequest.denied.Goals as goal

pub returns-clause-does : goal.returns-clause-does
returns-clause-does c =
    let r = c.args.self in
    denied_with r.server.now r.request.arrival r.request.request.message r.judged.now.question r.judged.now.minute r.is_full c.replied.result c.args.rule
    c.in_ok-extras.extras
    c.in_ok-extras.ensures c.replied.ensures.does

pub returns-clause-opens : goal.returns-clause-opens
returns-clause-opens c = opens_final c.replied.result c.args.self.request.arrival c.args.self.request.key 403 refl c.replied.ensures.opens
