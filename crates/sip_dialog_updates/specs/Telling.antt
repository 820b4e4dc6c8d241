-- Which updates say what goes through a server.
use Rattle.std.specs.Prelude.{◌≡◌, ℕ, Bool, not, ◌&&◌, nat_le, List, Option}
use Rattle.sip_hops.specs.declared.host_address.HostAddress.{HostAddress}
use Rattle.sip_dialog.specs.declared.dialog.Dialog.{Dialog}
use Rattle.sip_state.specs.declared.server.Server.{Server}
use Rattle.sip_state.specs.declared.open_request.Upward.{Upward}
use Rattle.sip_dialog_updates.specs.declared.dialog_update.DialogUpdate.{DialogUpdate}
use Rattle.sip_dialog_updates.specs.DialogUpdates.{after_update, after_one, after_updates}

-- A update does what a server with this table of addresses makes of the dialogs, at each moment.
abbrev pub Does : List HostAddress → DialogUpdate → (Server → ℕ → List Dialog → List Dialog) → Type 0
Does rows update edit = (server : Server) (now : ℕ) (dialogs : List Dialog) → server.config.addresses ≡ rows
    → after_update now update dialogs ≡ edit server now dialogs

-- So does one, or there is none and nothing is made of them.
abbrev pub DoesOr : List HostAddress → Option DialogUpdate → (Server → ℕ → List Dialog → List Dialog) → Type 0
DoesOr rows update edit = (server : Server) (now : ℕ) (dialogs : List Dialog) → server.config.addresses ≡ rows
    → after_one now update dialogs ≡ edit server now dialogs

-- Updates with further ones behind them do this after what they did.
abbrev pub Adds : List HostAddress → List DialogUpdate → List DialogUpdate → (Server → ℕ → List Dialog → List Dialog) → Type 0
Adds rows old new edit =
    (server : Server) (now : ℕ) (dialogs : List Dialog) → server.config.addresses ≡ rows → after_updates now new dialogs
    ≡ edit server now (after_updates now old dialogs)

-- whether an answer may make a dialog known: one of 101 to 299 (RFC 3261 12.1)
abbrev pub is_early_or_success : Upward → Bool
is_early_or_success u = not (nat_le u.status 100) && nat_le u.status 299
