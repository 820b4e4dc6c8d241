-- What is decided about an ACK, and about a new request.
use Rattle.std.proofs.Common.{◌≡◌, ℕ, Bool, true, false, cond, List, [], Option, Some, None, is_some, refl, bytes_eq, codes}
use Rattle.sip_dialog.specs.declared.dialog.DialogId.{DialogId}
use Rattle.sip_dialog.specs.Dialogs.{is_in_dialog}
use Rattle.sip_message_form.specs.declared.message.Message.{Message}
use Rattle.sip_header.specs.CoreFields.{core_of}
use Rattle.sip_uri.specs.declared.addr.Addr.{Addr}
use Rattle.sip_transaction_table.specs.declared.key.TransactionKey.{TransactionKey}
use Rattle.sip_verdict.specs.state.Arrival.{Arrival}
use Rattle.sip_verdict.specs.state.Dialogs.{dialog_of}
use Rattle.sip_verdict.specs.state.declared.proxy_state.ProxyState.{ProxyState}
use Rattle.sip_verdict.specs.state.declared.server.Server.{Server}
use Rattle.sip_validate.specs.Refusal.{refusal_of, is_bad_request}
use Rattle.sip_verdict.specs.verdict_model.Verdict as Definition
use Rattle.std.specs.Result.{result_ok}
use Rattle.sip_engine.specs.Delivery.{IsDroppedOrOn, NeedsRoom}

-- ---- an ACK

dropped_at : (state : ProxyState) (now : ℕ) (id : Option DialogId) (address : Option Addr)
    → IsDroppedOrOn (Definition.within_at state now Definition.AckOn Definition.Drop id address)
dropped_at state now None address = tt
dropped_at state now (Some id) None = tt
dropped_at state now (Some id) (Some address) = by_test (is_in_dialog now state.dialogs id address) where
  by_test : (t : Bool) → IsDroppedOrOn (cond t (Definition.AckOn address id) Definition.Drop)
  by_test true = tt
  by_test false = tt

pub dropped_or_on : (server : Server) (state : ProxyState) (now : ℕ) (m : Message) (short : Bool) → IsDroppedOrOn (Definition.ack_verdict server state now m short)
dropped_or_on server state now m short = by_test (is_some (refusal_of server.config.own m short)) where
  by_test : (t : Bool) → IsDroppedOrOn (cond t Definition.Drop (Definition.within server state now m Definition.AckOn Definition.Drop))
  by_test true = tt
  by_test false = dropped_at state now (dialog_of m) (Definition.next_address server m)

-- ---- a new request

free : (full : Bool) (v : Definition.Verdict) → IsDroppedOrOn v → NeedsRoom full v
free full Definition.Drop is = tt
free full (Definition.Respond r b status) is = absurd is
free full (Definition.Copy r) is = absurd is
free full (Definition.AckOn address id) is = tt
free full (Definition.Cancel found) is = absurd is
free full (Definition.Answer status extras) is = absurd is
free full (Definition.InDialog address id) is = absurd is
free full (Definition.Challenge q) is = absurd is
free full (Definition.Deny q id) is = absurd is
free full (Definition.Send q id targets) is = absurd is
free full (Definition.Register q id registered) is = absurd is

roomy : (full : Bool) (v : Definition.Verdict) → full ≡ false → NeedsRoom full v
roomy full Definition.Drop e = tt
roomy full (Definition.Respond r b status) e = tt
roomy full (Definition.Copy r) e = tt
roomy full (Definition.AckOn address id) e = tt
roomy full (Definition.Cancel found) e = e
roomy full (Definition.Answer status extras) e = tt
roomy full (Definition.InDialog address id) e = e
roomy full (Definition.Challenge q) e = e
roomy full (Definition.Deny q id) e = e
roomy full (Definition.Send q id targets) e = e
roomy full (Definition.Register q id registered) e = e

-- with 503 where there is none
spared : (state : ProxyState) (v : Definition.Verdict) → NeedsRoom (Definition.is_full state) (cond (Definition.is_full state) (Definition.Answer 503 []) v)
spared state v = by_test (Definition.is_full state) refl where
  by_test : (t : Bool) → Definition.is_full state ≡ t → NeedsRoom (Definition.is_full state) (cond t (Definition.Answer 503 []) v)
  by_test true e = tt
  by_test false e = roomy (Definition.is_full state) v e

checked : (server : Server) (state : ProxyState) (now : ℕ) (m : Message) (method : List ℕ) (refusal : Option (ℕ × List ℕ))
    → NeedsRoom (Definition.is_full state) (Definition.checked_verdict server state now m method refusal)
checked server state now m method (Some refusal) = tt
checked server state now m method None = spared state (Definition.core_verdict server state now m method (result_ok (core_of m)))

cancelling : (server : Server) (state : ProxyState) (a : Arrival) (m : Message) (short : Bool) (key : TransactionKey)
    → NeedsRoom (Definition.is_full state) (Definition.cancel_verdict server state a m short key)
cancelling server state a m short key = by_test (is_bad_request server.config.own m short) where
  by_test : (t : Bool)
      → NeedsRoom (Definition.is_full state) (cond t (Definition.Answer 400 []) (cond (Definition.is_full state) (Definition.Answer 503 [])
      (Definition.Cancel (Definition.found_for_cancel state key a.from))))
  by_test true = tt
  by_test false = spared state (Definition.Cancel (Definition.found_for_cancel state key a.from))

pub new_place : (server : Server) (state : ProxyState) (a : Arrival) (m : Message) (short : Bool) (method : List ℕ) (key : TransactionKey)
    → NeedsRoom (Definition.is_full state) (Definition.new_verdict server state a m short method key)
new_place server state a m short method key = by_ack (bytes_eq method (codes "ACK")) where
  by_cancel : (t : Bool)
      → NeedsRoom (Definition.is_full state)
      (cond t (Definition.cancel_verdict server state a m short key) (Definition.checked_verdict server state a.now m method (refusal_of server.config.own m short)))
  by_cancel true = cancelling server state a m short key
  by_cancel false = checked server state a.now m method (refusal_of server.config.own m short)

  by_ack : (t : Bool)
      → NeedsRoom (Definition.is_full state)
      (cond t (Definition.ack_verdict server state a.now m short)
      (cond (bytes_eq method (codes "CANCEL")) (Definition.cancel_verdict server state a m short key)
      (Definition.checked_verdict server state a.now m method (refusal_of server.config.own m short))))
  by_ack true = free (Definition.is_full state) (Definition.ack_verdict server state a.now m short) (dropped_or_on server state a.now m short)
  by_ack false = by_cancel (bytes_eq method (codes "CANCEL"))
