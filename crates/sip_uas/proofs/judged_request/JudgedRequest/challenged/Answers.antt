use Rattle.sip_uas.proofs.Answered.{challenge_final, opens_final, challenged_with}
use Rattle.sip_uas.proofs.judged_request.JudgedRequest.challenged.Goals as goal

pub returns-clause-does : goal.returns-clause-does
returns-clause-does c =
    let r = c.args.self in
    challenged_with r.server.now r.request.arrival r.request.request.message r.judged.now.question r.judged.now.minute r.is_full c.replied.result
    c.challenge_status-status.result
    c.in_ok-extras.extras
    c.challenge_status-status.ensures (c.in_ok-extras.ensures r.request.arrival.number r.request.arrival.now r.request.arrival.from) c.replied.ensures.does

pub returns-clause-opens : goal.returns-clause-opens
returns-clause-opens c =
    let r = c.args.self in
    opens_final c.replied.result r.request.arrival r.request.key c.challenge_status-status.result
    (challenge_final r.judged.now.question.operation c.challenge_status-status.result c.challenge_status-status.ensures) c.replied.ensures.opens
