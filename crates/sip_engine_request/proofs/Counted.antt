-- What a state becomes that then takes a datagram's number.
use Rattle.std.proofs.Common.{◌≡◌, ◌∙◌, ℕ, ◌+◌, List, sym, ap, subst}
use Rattle.sip_proxy.specs.Proxy.{Becomes, IsCounted}
use Rattle.sip_dialog.specs.Sameness.{SameDialogs}
use Rattle.sip_dialog.specs.declared.dialog.Dialog.{Dialog}
use Rattle.sip_dialog_updates.specs.DialogUpdates.{after_updates}
use Rattle.sip_dialog_updates.specs.declared.dialog_update.DialogUpdate.{DialogUpdate}
use Rattle.sip_proxy.specs.steps_model.Effect.{counted}
use Rattle.sip_uas.specs.forwarding.Arrivals.{arrival_of}
use Rattle.sip_uas.specs.forwarding.declared.arrival.Arrival.{Arrival}
use Rattle.sip_dialog_updates.specs.state.declared.open_request.OpenRequest.{OpenRequest}
use Rattle.sip_dialog_updates.specs.state.declared.proxy_state.ProxyState.{ProxyState}

pub counted_is : (a : Arrival) (requests : List OpenRequest) (updates : List DialogUpdate) (old mid new : ProxyState) → a.number ≡ old.next
    → Becomes a.now requests updates old mid → IsCounted mid new
    → Becomes a.now requests updates (counted (arrival_of a) old) new
counted_is a requests updates old mid new number became counts =
    record {
      moment_is = counts.moment_is ∙ became.moment_is;
      next_is = counts.next_is ∙ ap (λ (n : ℕ). n + 1) (became.next_is ∙ sym number);
      bindings_are = counts.bindings_are ∙ became.bindings_are;
      nonces_are = counts.nonces_are ∙ became.nonces_are;
      requests_are = counts.requests_are ∙ became.requests_are;
      dialogs_are = subst (λ (dialogs : List Dialog). SameDialogs a.now dialogs (after_updates a.now updates old.dialogs)) (sym counts.dialogs_are) became.dialogs_are;
    }
