use Rattle.std.proofs.Common.{◌≤◌, List, Option, sym, subst}
use Rattle.sip_event.specs.declared.event.StepOut.{StepOut}
use Rattle.sip_proxy.specs.fork.Keeping.{IsKeptAs}
use Rattle.sip_dialog_updates.specs.DialogUpdates.{beginnings}
use Rattle.sip_dialog_updates.specs.declared.dialog_update.DialogUpdate.{DialogUpdate}
use Rattle.sip_proxy.specs.steps_model.Effect.{cancelling, counted}
use Rattle.sip_proxy.specs.steps_model.Step.{Does}
use Rattle.sip_uas.specs.forwarding.Arrivals.{arrival_of}
use Rattle.sip_dialog_updates.specs.state.declared.open_request.OpenRequest.{OpenRequest}
use Rattle.sip_dialog_updates.specs.state.declared.proxy_state.ProxyState.{ProxyState}
use Rattle.sip_engine_request.proofs.Cancels.{cancel_done, stands_at}
use Rattle.sip_engine_request.proofs.cancelling.cancel_at.Goals as goal

pub open_and_change-requires-clause-kept : goal.open_and_change-requires-clause-kept
open_and_change-requires-clause-kept g c = λ r at. subst (IsKeptAs c.args.cancel.arrival.now r) (sym c.in_ok-both.ensures.change) (c.in_ok-draft.ensures r at).kept

pub open_and_change-requires-clause-few : goal.open_and_change-requires-clause-few
open_and_change-requires-clause-few g c =
    let there = stands_at c.args.proxy.now.state.requests c.args.place c.requires.place in
    subst (λ (updates : List DialogUpdate). beginnings updates ≤ 1) (sym c.in_ok-both.ensures.updates) (c.in_ok-draft.ensures there.0 there.1).drafted.few

pub returns-clause-does : goal.returns-clause-does
returns-clause-does g c =
    let old : ProxyState = c.args.proxy.now.state in
    let new : ProxyState = c.count-number.new.self.state in
    let there = stands_at c.args.proxy.now.state.requests c.args.place c.requires.place in
    let named : OpenRequest = there.0 in
    let out : StepOut = record { at = c.args.cancel.arrival.now; packets = c.in_ok-packets.packets; records = c.new.result } in
    subst
    (λ (o : Option OpenRequest).
    Does c.args.configured.now.server.now old c.args.cancel.arrival.now (cancelling c.args.configured.now.server.now (arrival_of c.args.cancel.arrival)
    c.args.cancel.request.message o (counted (arrival_of c.args.cancel.arrival) old)) out new)
    (sym there.1)
    (cancel_done c.args.configured.now.server.now c.args.cancel.arrival c.args.cancel.request.message c.args.configured.now.hops.now.addresses old
    c.open_and_change.new.self.state new named c.in_ok-agreed.agreed.opened c.in_ok-agreed.agreed.packet
    c.in_ok-draft.draft c.in_ok-both.both c.in_ok-packets.packets c.new.result c.requires.space c.args.configured.now.rows c.requires.new.coming.number_is
    c.in_ok-agreed.ensures.packet c.in_ok-agreed.ensures.opened
    (c.in_ok-draft.ensures named there.1) c.in_ok-both.ensures.change c.in_ok-both.ensures.packets c.in_ok-both.ensures.updates c.in_ok-packets.ensures.sent
    c.in_ok-packets.ensures.becomes
    c.count-number.ensures.counted c.new.ensures)
