-- A datagram that takes its number.
use Rattle.std.proofs.Common.{◌≡◌, List, subst}
use Rattle.sip_proxy.specs.Proxy.{Becomes, IsCounted}
use Rattle.sip_dialog_updates.specs.declared.dialog_update.DialogUpdate.{DialogUpdate}
use Rattle.sip_proxy.specs.steps_model.Effect.{counted}
use Rattle.sip_uas.specs.forwarding.Arrivals.{arrival_of}
use Rattle.sip_uas.specs.forwarding.declared.arrival.Arrival.{Arrival}
use Rattle.sip_dialog_updates.specs.state.State.{with_one_more}
use Rattle.sip_dialog_updates.specs.state.declared.open_request.OpenRequest.{OpenRequest}
use Rattle.sip_dialog_updates.specs.state.declared.proxy_state.ProxyState.{ProxyState}
use Rattle.sip_engine_request.proofs.Counted.{counted_is}

-- the same where a request was opened
pub opened_is : (a : Arrival) (change request : OpenRequest) (updates : List DialogUpdate) (old mid new : ProxyState) → a.number ≡ old.next → change ≡ request
    → Becomes a.now (with_one_more change old.requests) updates old mid → IsCounted mid new
    → Becomes a.now (with_one_more request old.requests) updates (counted (arrival_of a) old) new
opened_is a change request updates old mid new number same became counts =
    counted_is a (with_one_more request old.requests) updates old mid new number
    (subst (λ (r : OpenRequest). Becomes a.now (with_one_more r old.requests) updates old mid) same became) counts
