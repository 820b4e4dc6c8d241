-- Where a request goes in a dialog that is known.
use Rattle.std.specs.Prelude.{◌≡◌, ℕ, List, Option}
use Rattle.std.specs.Option.{option_map_or}
use Rattle.sip_dialog.specs.declared.dialog.Dialog.{Dialog}
use Rattle.sip_dialog.specs.declared.dialog.DialogId.{DialogId}
use Rattle.sip_message_form.specs.declared.message.Message.{Message}
use Rattle.sip_uri.specs.declared.addr.Addr.{Addr}
use Rattle.model_verdict.specs.state.declared.proxy_state.ProxyState.{ProxyState}
use Rattle.model_verdict.specs.state.declared.server.Server.{Server}
use Rattle.model_verdict.specs.Verdict.{Verdict, within}

-- A request goes on to this address in this dialog, or is in none of these dialogs: so every verdict on it within a dialog says, in
-- every state with these.
abbrev pub GoesOn : Server → List Dialog → ℕ → Message → Option (Addr × DialogId) → Type 0
GoesOn server dialogs now m found =
    (state : ProxyState) → state.dialogs ≡ dialogs → (on : Addr → DialogId → Verdict) (none : Verdict)
    → within server state now m on none ≡ option_map_or (λ x. on x.0 x.1) found none
