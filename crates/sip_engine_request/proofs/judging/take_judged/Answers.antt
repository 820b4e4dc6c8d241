use Rattle.std.proofs.Common.{refl, sym}
use Rattle.sip_proxy.specs.steps_model.Effect.{counted, effect_of}
use Rattle.sip_uas.specs.forwarding.Arrivals.{arrival_of}
use Rattle.sip_dialog_updates.specs.state.declared.proxy_state.ProxyState.{ProxyState}
use Rattle.sip_proxy.specs.verdict.Verdict.{plan_of}
use Rattle.sip_uas.specs.Asking.{after_asking}
use Rattle.sip_engine_request.proofs.Answering.{opened_in}
use Rattle.sip_engine_request.proofs.Asking.{judged_done, judged_replies}
use Rattle.sip_engine_request.proofs.judging.take_judged.Goals as goal

pub take_draft-requires-clause-opens : goal.take_draft-requires-clause-opens
take_draft-requires-clause-opens g c =
    let old : ProxyState = c.args.proxy.now.state in
    let before : ProxyState = counted (arrival_of c.args.request.arrival) old in
    opened_in c.args.request.arrival c.args.request.key old c.in_ok-draft.draft (after_asking (arrival_of c.args.request.arrival) c.args.judged old.nonces)
    (plan_of c.args.judged.outcome)
    (effect_of c.args.server.now (arrival_of c.args.request.arrival) c.args.request.request.message c.requires.answers.verdict before) c.requires.new.alone
    (c.in_ok-draft.ensures.does before old.bindings c.requires.answers.named c.requires.answers.verdict refl (sym c.is_full-is_full.ensures) c.requires.answers.is)
    (judged_replies c.args.server.now c.args.request.arrival c.args.request.request.message before old.bindings c.args.judged.question c.requires.answers.verdict
    c.args.judged.outcome c.requires.here c.requires.answers.is.1)
    (c.in_ok-draft.ensures.opens old.bindings c.requires.answers.named c.requires.answers.verdict c.requires.answers.is c.requires.answers.final)

pub returns-clause-does : goal.returns-clause-does
returns-clause-does g c = λ named verdict is.
    let old : ProxyState = c.args.proxy.now.state in
    let before : ProxyState = counted (arrival_of c.args.request.arrival) old in
    judged_done c.args.server.now c.args.request.arrival c.args.request.request.message old c.take_draft.new.proxy.state c.take_decision.new.proxy.state c.args.judged
    verdict
    c.in_ok-draft.draft c.in_ok-out.out
    (c.in_ok-draft.ensures.does before old.bindings named verdict refl (sym c.is_full-is_full.ensures) is)
    (judged_replies c.args.server.now c.args.request.arrival c.args.request.request.message before old.bindings c.args.judged.question verdict c.args.judged.outcome
    c.requires.here is.1) c.in_ok-out.ensures.out
    c.in_ok-out.ensures.becomes c.take_decision.ensures.rest c.take_decision.ensures.bound
