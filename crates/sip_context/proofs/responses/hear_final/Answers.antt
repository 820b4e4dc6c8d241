use Rattle.sip_context.specs.Sent.{change_of}
use Rattle.sip_context_branches.specs.context_model.Branches.{acks_of, relayed_success, with_answer}
use Rattle.sip_context.proofs.Settled.{settled_told}
use Rattle.sip_context.proofs.responses.hear_final.Goals as goal

pub returns : goal.returns
returns c =
    let r = c.args.request.now in
    let b = c.args.branch.now in
    let m = c.args.response.now in
    settled_told c.args.server.now c.args.now c.in_ok-acks.acks (acks_of c.args.server.now r b c.args.status m) c.in_ok-relayed.relayed
    (relayed_success r b c.args.status m) c.take_final.new.open_request (with_answer r b c.args.now c.args.status m)
    (change_of c.settle.new.request c.in_ok-sent.sent) c.in_ok-sent.ensures c.in_ok-acks.ensures c.in_ok-relayed.ensures.relayed c.in_ok-relayed.ensures.told
