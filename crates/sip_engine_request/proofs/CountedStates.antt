-- What a state becomes that then takes a datagram's number.
use Rattle.std.proofs.Common.{◌≡◌, ◌∙◌, ℕ, ◌+◌, List, sym, ap, subst}
use Rattle.sip_proxy.specs.Proxy.{Becomes, IsCounted}
use Rattle.sip_proxy.specs.verdict.context_model.Branches.{Change}
use Rattle.sip_dialog.specs.Sameness.{SameDialogs}
use Rattle.sip_dialog.specs.declared.dialog.Dialog.{Dialog}
use Rattle.sip_proxy.specs.forwarding.Forwarding.{Teach}
use Rattle.sip_hops.specs.declared.host_address.HostAddress.{HostAddress}
use Rattle.sip_dialog_updates.specs.DialogUpdates.{after_updates}
use Rattle.sip_dialog_updates.specs.declared.dialog_update.DialogUpdate.{DialogUpdate}
use Rattle.sip_location.specs.Binding.{live}
use Rattle.sip_location.specs.Sameness.{SameBindings}
use Rattle.sip_location.specs.declared.binding.Binding.{Binding}
use Rattle.sip_proxy.specs.steps_model.Effect.{changed, counted, dialogs_after, replaced}
use Rattle.sip_proxy.specs.forwarding.Arrivals.{arrival_of}
use Rattle.sip_proxy.specs.forwarding.declared.arrival.Arrival.{Arrival}
use Rattle.sip_dialog_updates.specs.state.SameState.{SameState}
use Rattle.sip_dialog_updates.specs.state.declared.open_request.OpenRequest.{OpenRequest}
use Rattle.sip_dialog_updates.specs.state.declared.proxy_state.ProxyState.{ProxyState}
use Rattle.sip_dialog_updates.specs.state.declared.server.Server.{Server}
use Rattle.sip_engine_request.specs.OpenSteps.{left_by}

-- the same bindings say the same
bindings_same : (from : ℕ) (left right : List Binding) → left ≡ right → SameBindings from left right
bindings_same from left right same = λ aor moment later. ap (λ (rows : List Binding). live aor moment rows) same

pub left_same : (a : Arrival) (requests : List OpenRequest) (updates : List DialogUpdate) (old middle new : ProxyState) → a.number ≡ old.next
    → Becomes a.now requests updates old middle
    → IsCounted middle new → SameState new (left_by a requests (after_updates a.now updates old.dialogs) old)
left_same a requests updates old middle new number becomes counts =
    let at : new.moment ≡ a.now = counts.moment_is ∙ becomes.moment_is in
    record {
      moment = at;
      next = counts.next_is ∙ ap (λ (n : ℕ). n + 1) (becomes.next_is ∙ sym number);
      bindings = bindings_same new.moment new.bindings old.bindings (counts.bindings_are ∙ becomes.bindings_are);
      nonces = counts.nonces_are ∙ becomes.nonces_are;
      requests = counts.requests_are ∙ becomes.requests_are;
      dialogs =
          subst (λ (n : ℕ). SameDialogs n new.dialogs (after_updates a.now updates old.dialogs)) (sym at)
          (subst (λ (ds : List Dialog). SameDialogs a.now ds (after_updates a.now updates old.dialogs)) (sym counts.dialogs_are) becomes.dialogs_are);
    }

pub changed_same : (rows : List HostAddress) (server : Server) (a : Arrival) (change : Change) (updates : List DialogUpdate) (old middle new : ProxyState)
    → a.number ≡ old.next
    → server.config.addresses ≡ rows → Teach rows server a.now updates (dialogs_after server a.now change)
    → Becomes a.now (replaced change.request old.requests) updates old middle
    → IsCounted middle new → SameState new (changed server a.now (counted (arrival_of a) old) change).state
changed_same rows server a change updates old middle new number known teach becomes counts =
    subst (λ (ds : List Dialog). SameState new (left_by a (replaced change.request old.requests) ds old)) (teach known old.dialogs)
    (left_same a (replaced change.request old.requests) updates old middle new number becomes counts)
