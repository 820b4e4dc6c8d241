-- A verdict over the parts of a state is the one over the state.
use Rattle.std.proofs.Common.{◌≡◌, ℕ, Bool, List, Result, IfOk, length, nat_le, sym, subst}
use Rattle.std.proofs.lemmas.Result.{IfOk-weaker}
use Rattle.std.specs.declared.alloc.AllocError.{AllocError}
use Rattle.sip_verdict.specs.Verdict.{Is, Knows}
use Rattle.sip_verdict.specs.declared.verdict.Verdict.{Verdict}
use Rattle.sip_dialog.specs.declared.dialog.Dialog.{Dialog}
use Rattle.sip_message_form.specs.declared.message.Message.{Message}
use Rattle.sip_transaction_table.specs.declared.key.TransactionKey.{TransactionKey}
use Rattle.sip_location.specs.declared.binding.Binding.{Binding}
use Rattle.sip_digest.specs.declared.nonces.Nonce.{Nonce}
use Rattle.sip_dialog_updates.specs.state.Arrival.{Arrival}
use Rattle.sip_dialog_updates.specs.state.declared.proxy_state.ProxyState.{ProxyState}
use Rattle.sip_dialog_updates.specs.state.declared.server.Server.{Server}
use Rattle.sip_verdict.specs.verdict_model.Verdict as Definition

-- what was decided is the verdict on a request in a state, over these bindings
abbrev pub IsVerdict : Server → List Binding → ℕ → Message → Bool → List ℕ → ProxyState → Verdict → Type 0
IsVerdict server rows now request short method state verdict =
    (a : Arrival) (key : TransactionKey) → a.now ≡ now → Is server rows now (Definition.found_for_cancel state key a.from)
    (Definition.new_verdict server state a request short method key) verdict

-- what holds of each state with these parts holds of this one
pub whole : (server : Server) (now : ℕ) (request : Message) (short : Bool) (method : List ℕ) (state : ProxyState) (rows : List Binding) (nonces : List Nonce)
    (dialogs : List Dialog) (is_full : Bool) (result : Result Verdict AllocError)
    → rows ≡ state.bindings → nonces ≡ state.nonces → dialogs ≡ state.dialogs → is_full ≡ nat_le 1024 (length state.requests)
    → IfOk result (λ (verdict : Verdict). (s : ProxyState) → Knows s rows nonces dialogs is_full → IsVerdict server rows now request short method s verdict)
    → IfOk result (IsVerdict server state.bindings now request short method state)
whole server now request short method state rows nonces dialogs is_full result bindings_are nonces_are dialogs_are fullness_is =
    IfOk-weaker result (λ (verdict : Verdict). (s : ProxyState) → Knows s rows nonces dialogs is_full → IsVerdict server rows now request short method s verdict)
    (IsVerdict server state.bindings now request short method state)
    (λ verdict holds. subst (λ (bindings : List Binding). IsVerdict server bindings now request short method state verdict) bindings_are
    (holds state (record { bindings_are = sym bindings_are; nonces_are = sym nonces_are; dialogs_are = sym dialogs_are; fullness_is = sym fullness_is })))
