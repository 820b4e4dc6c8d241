-- What the dialogs learn from what is sent (this project's profile of RFC 3261 12).
use Rattle.std.specs.Prelude.{ℕ, ◌&&◌, nat_le, List, [], ◌∷◌, ◌++◌, codes, Option, Some, None, if◌then◌else◌}
use Rattle.std.specs.Option.{option_and_then, option_map_or, option_to_list}
use Rattle.std.specs.Result.{result_ok}
use Rattle.std.specs.Str.{bytes_eq}
use Rattle.sip_message_form.specs.declared.message.Message.{Message}
use Rattle.sip_header.specs.CoreFields.{core_of}
use Rattle.sip_uri.specs.declared.addr.Addr.{Addr}
use Rattle.sip_hops.specs.HostAddress.{address_of}
use Rattle.sip_dialog.specs.declared.dialog.DialogId.{DialogId}
use Rattle.sip_dialog.specs.declared.dialog.Dialog.{Dialog}
use Rattle.sip_dialog.specs.declared.dialog.InviteAnswer.{InviteAnswer}
use Rattle.sip_dialog.specs.DialogId.{id_of, answer_id}
use Rattle.sip_dialog.specs.Addresses.{addresses_in}
use Rattle.sip_dialog.specs.Dialogs.{learnt, taught, renewed, without_dialog, after_invite}
use Rattle.sip_state.specs.declared.server.Server.{Server}
use Rattle.sip_state.specs.declared.open_request.OpenRequest.{OpenRequest}
use Rattle.sip_state.specs.declared.open_request.Upward.{Upward}
use Rattle.sip_state.specs.State.{is_invite, has_left, is_success}

-- the dialog that a request names, if its To has a tag
abbrev pub dialog_of : Message → Option DialogId
dialog_of m = option_and_then (λ core. id_of core) (result_ok (core_of m))

-- the addresses that a message gives
abbrev pub addresses_of : Server → Message → List Addr
addresses_of server m = addresses_in (address_of server.config.addresses) m.fields

-- a request of a dialog that is sent on renews it and tells it addresses
abbrev pub after_request : Server → ℕ → DialogId → Message → List Dialog → List Dialog
after_request server now id m dialogs = renewed now id (addresses_of server m) dialogs

-- an answer to a request of a dialog: a 2xx to a BYE ends the dialog, every other above 100 tells it addresses (RFC 3261 15)
abbrev pub after_answer_within : Server → ℕ → OpenRequest → Upward → DialogId → List Dialog → List Dialog
after_answer_within server now r u id dialogs =
    if bytes_eq r.key.method (codes "BYE") && is_success u.status then without_dialog now id dialogs
    else taught now id (addresses_of server u.message) dialogs

-- what an answer to an INVITE tells of the dialog that it names
abbrev pub invite_answer : Server → OpenRequest → Upward → DialogId → InviteAnswer
invite_answer server r u id =
    record {
      id = id;
      number = r.number;
      arrived_at = r.arrived_at;
      is_success = is_success u.status;
      addresses = r.request.source ∷ option_to_list u.target ++ addresses_of server r.request.message ++ addresses_of server u.message;
    }

-- an answer to an INVITE that begins a dialog: one of 101 to 299 makes it known, one of 300 to 699 tells a known one addresses (RFC 3261 12.1)
abbrev pub after_invite_answer : Server → ℕ → OpenRequest → Upward → DialogId → List Dialog → List Dialog
after_invite_answer server now r u id dialogs =
    if nat_le u.status 299 then learnt now (invite_answer server r u id) dialogs else taught now id (addresses_of server u.message) dialogs

-- the dialog that an answer to an INVITE names: its Call-ID and From, and the answer's To, if this has a tag
abbrev pub answered_dialog : OpenRequest → Message → Option DialogId
answered_dialog r answer = option_and_then (λ core. answer_id core answer.fields) (result_ok (core_of r.request.message))

-- an answer to a request without a To tag tells of a dialog only if the request is an INVITE (RFC 3261 12.1)
abbrev pub after_first_answer : Server → ℕ → OpenRequest → Upward → List Dialog → List Dialog
after_first_answer server now r u dialogs =
    if is_invite r then option_map_or (λ id. after_invite_answer server now r u id dialogs) (answered_dialog r u.message) dialogs else dialogs

-- an answer to a request of a dialog, or to one outside
abbrev pub after_answer_of : Server → ℕ → OpenRequest → Upward → Option DialogId → List Dialog → List Dialog
after_answer_of server now r u (Some id) dialogs = after_answer_within server now r u id dialogs
after_answer_of server now r u None dialogs = after_first_answer server now r u dialogs

-- the dialogs after an answer went to the caller; a 100 tells nothing
abbrev pub after_answer : Server → ℕ → OpenRequest → Upward → List Dialog → List Dialog
after_answer server now r u dialogs = if nat_le u.status 100 then dialogs else after_answer_of server now r u (dialog_of r.request.message) dialogs

-- after several, in their order
abbrev pub after_answers : Server → ℕ → OpenRequest → List Upward → List Dialog → List Dialog
after_answers server now r [] dialogs = dialogs
after_answers server now r (u ∷ us) dialogs = after_answers server now r us (after_answer server now r u dialogs)

-- when an INVITE stays open no longer, those of its dialogs end to which no 2xx was forwarded (RFC 3261 12.3)
abbrev pub after_leaving : ℕ → OpenRequest → List Dialog → List Dialog
after_leaving now r dialogs = if is_invite r && has_left r then after_invite now r.number dialogs else dialogs
