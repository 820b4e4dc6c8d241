use Rattle.std.proofs.Common.{ap}
use Rattle.sip_dialog_updates.specs.state.KeptRequest.{KeptRequest}
use Rattle.sip_uas.proofs.Answered.{replied_with}
use Rattle.sip_uas.proofs.judged_request.JudgedRequest.replied.Goals as goal

pub returns-clause-does : goal.returns-clause-does
returns-clause-does c =
    let r = c.args.self in
    replied_with r.server.now r.request.arrival r.request.request.message r.judged.now.question r.judged.now.minute r.is_full c.answer.result c.args.outcome c.args.status
    c.args.extras.now
    c.in_ok-records.records
    c.get.result.now.message (ap (λ (k : KeptRequest). k.message) c.get.ensures) c.in_ok-records.ensures c.answer.ensures.does
