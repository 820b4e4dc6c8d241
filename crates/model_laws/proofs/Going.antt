-- A request of a dialog goes to an address that the dialog was told.
use Rattle.std.proofs.Common.{◌≡◌, ◌⊎◌, inl, inr, ℕ, ◌-◌, ◌<◌, ◌≤◌, max, true, List, ◌∷◌, Contains, refl, sym, ap, arith}
use Rattle.sip_message_form.specs.declared.message.Message.{Message}
use Rattle.sip_uri.specs.declared.addr.Addr.{Addr}
use Rattle.sip_dialog.specs.declared.dialog.DialogId.{DialogId}
use Rattle.sip_dialog.specs.declared.dialog.Dialog.{Dialog}
use Rattle.sip_dialog.specs.DialogId.{is_same_dialog}
use Rattle.sip_model.specs.state.declared.server.Server.{Server}
use Rattle.sip_model.specs.state.declared.proxy_state.ProxyState.{ProxyState}
use Rattle.sip_model.specs.state.State.{first_state}
use Rattle.sip_model.specs.state.Arrival.{Arrival}
use Rattle.sip_model.specs.Access.{IsWithin}
use Rattle.sip_model.specs.Run.{Link, under, IsChain}
use Rattle.model_laws.specs.Dialogs.{IsNamed, IsAddressOf, WasTold, GoesWhereTold}
use Rattle.sip_model.proofs.Places.{in_from_contains, all_in}
use Rattle.model_laws.proofs.Telling.{named_alike, address_alike, request_alike}
use Rattle.model_laws.proofs.Ended.{same_name}

-- both sides of a call name one dialog
same_back : (d id : DialogId) → is_same_dialog d id ≡ true → is_same_dialog id d ≡ true
same_back d id same = same_name id d (turned (named_alike d id id.call_id id.from_tag id.to_tag same (refl, inl (refl, refl)))) where
  by_order : ((d.from_tag ≡ id.from_tag) × (d.to_tag ≡ id.to_tag)) ⊎ ((d.from_tag ≡ id.to_tag) × (d.to_tag ≡ id.from_tag))
      → ((id.from_tag ≡ d.from_tag) × (id.to_tag ≡ d.to_tag)) ⊎ ((id.from_tag ≡ d.to_tag) × (id.to_tag ≡ d.from_tag))
  by_order (inl tags) = inl (sym tags.0, sym tags.1)
  by_order (inr tags) = inr (sym tags.1, sym tags.0)

  turned : IsNamed d id.call_id id.from_tag id.to_tag → IsNamed id d.call_id d.from_tag d.to_tag
  turned named = (sym named.0, by_order named.1)

-- a datagram doesn't come before the moment of its state
not_before : (server : Server) (link : Link) (a : Arrival) (m : Message) (address : Addr) → IsWithin server link.before link.act a m address → link.before.moment ≤ a.now
not_before server link a m address h =
    let now : a.now ≡ max link.before.moment h.is_said.at = ap (λ (x : Arrival). x.now) h.is_said.is_arrival in
    omega (arith, now)

-- each goes where its dialog was told
pub within_goes : ((server : Server) (first : ℕ) (history : List Link) (last : ProxyState) → IsChain server (first_state first) history last → (d : Dialog)
    → Contains last.dialogs d → last.moment - d.since < 43200000
    → WasTold server history d)
    → (server : Server) (first : ℕ) (link : Link) (history : List Link) (last : ProxyState) → IsChain server (first_state first) (link ∷ history) last
    → (a : Arrival) (m : Message) (address : Addr)
    → (h : IsWithin (under server link.config) link.before link.act a m address) → GoesWhereTold server history a.now h.id address
within_goes told server first link history last chain a m address h =
    let d : Dialog = h.is_known.dialog in
    let later = not_before (under server link.config) link a m address h in
    let recent = h.is_known.is_recent in
    let was : WasTold server history d = told server first history link.before chain.2 d h.is_known.there (omega (arith, later, recent)) in
    let same : is_same_dialog h.id d.id ≡ true = same_back d.id h.id h.is_known.has_name in
    record {
      is_address =
          address_alike server history h.id d.id same address
          (all_in (IsAddressOf server history d.id) d.addresses address was.are_addresses (in_from_contains d.addresses address h.is_known.holds_address));
      moment = d.since;
      had_request = request_alike server history h.id d.id same d.since was.had_request;
      is_recent = omega (arith, recent);
    }
