use Rattle.std.proofs.Common.{List, None, IfOk, sym, subst}
use Rattle.sip_audit.specs.declared.record.Record.{Record}
use Rattle.sip_proxy.specs.steps_model.Effect.{Effect, counted, replied}
use Rattle.sip_proxy.specs.steps_model.Step.{Does}
use Rattle.sip_uas.specs.forwarding.Arrivals.{arrival_of}
use Rattle.sip_dialog_updates.specs.state.declared.proxy_state.ProxyState.{ProxyState}
use Rattle.sip_engine_request.proofs.Answering.{answer_done, opened_in, reply_replies}
use Rattle.sip_engine_request.proofs.answered_request.take_answered.Goals as goal

pub take_draft-requires-clause-opens : goal.take_draft-requires-clause-opens
take_draft-requires-clause-opens g c =
    let old : ProxyState = c.args.proxy.now.state in
    let before : ProxyState = counted (arrival_of c.args.request.arrival) old in
    let effect : Effect = replied c.args.server.now (arrival_of c.args.request.arrival) c.args.request.request.message c.args.status c.args.extras.now
    c.new-records.result before
    in
    opened_in c.args.request.arrival c.args.request.key old c.in_ok-draft.draft old.nonces None effect c.requires.new.alone
    (c.in_ok-draft.ensures.does before (sym c.is_full-is_full.ensures))
    (reply_replies c.args.server.now c.args.request.arrival c.args.request.request.message c.args.status c.args.extras.now c.new-records.result before)
    (c.in_ok-draft.ensures.opens c.requires.final_status)

pub returns-clause-does : goal.returns-clause-does
returns-clause-does g c =
    let old : ProxyState = c.args.proxy.now.state in
    let before : ProxyState = counted (arrival_of c.args.request.arrival) old in
    let new : ProxyState = c.take_draft.new.proxy.state in
    let effect : Effect = replied c.args.server.now (arrival_of c.args.request.arrival) c.args.request.request.message c.args.status c.args.extras.now
    c.new-records.result before
    in
    subst
    (λ (records : List Record).
    IfOk c.take_draft.result (λ out. Does c.args.server.now old c.args.request.arrival.now
    (replied c.args.server.now (arrival_of c.args.request.arrival) c.args.request.request.message c.args.status c.args.extras.now records before) out new))
    c.new-records.ensures
    (answer_done c.args.server.now c.args.request.arrival old new c.in_ok-draft.draft effect c.take_draft.result
    (c.in_ok-draft.ensures.does before (sym c.is_full-is_full.ensures))
    (reply_replies c.args.server.now c.args.request.arrival c.args.request.request.message c.args.status c.args.extras.now c.new-records.result before)
    c.take_draft.ensures.out
    c.take_draft.ensures.becomes)
