-- What names the dialogs of a request (RFC 3261 12).
use Rattle.std.specs.Prelude.{◌≡◌, ℕ, List, [], Option, None, Some, option_map, ⊤}
use Rattle.std.specs.Option.{option_and_then, unwrap_or}
use Rattle.std.specs.Result.{result_ok}
use Rattle.sip_message_form.specs.declared.message.Message.{Message}
use Rattle.sip_header.specs.declared.core_fields.CoreFields.{CoreFields}
use Rattle.sip_header.specs.CoreFields.{core_of}
use Rattle.sip_header.specs.Parameters.{tag_of}
use Rattle.sip_dialog.specs.declared.dialog.DialogId.{DialogId}
use Rattle.sip_state.specs.declared.names.DialogNames.{DialogNames}

-- Call-ID and the tags
abbrev pub names_of : CoreFields → DialogNames
names_of core = record { call_id = core.call_id; from_tag = unwrap_or (tag_of core.from.parameters) []; to_tag = tag_of core.to.parameters }

-- those of a request that names this dialog
abbrev pub names_within : DialogId → DialogNames
names_within id = record { call_id = id.call_id; from_tag = id.from_tag; to_tag = Some id.to_tag }

-- those of a request, if its core fields are read
abbrev pub names_in : Message → Option DialogNames
names_in m = option_map names_of (result_ok (core_of m))

-- names that were made of a request before, if they were, are its own
abbrev pub AreNames : Message → Option DialogNames → Type 0
AreNames m None = ⊤
AreNames m (Some names) = Some names ≡ names_in m

-- the dialog with a tag of To
abbrev pub id_to : List ℕ → DialogNames → DialogId
id_to tag names = record { call_id = names.call_id; from_tag = names.from_tag; to_tag = tag }

-- the dialog that the request names, if its To has a tag
abbrev pub dialog_by : Option DialogNames → Option DialogId
dialog_by names = option_and_then (λ (n : DialogNames). option_map (λ tag. id_to tag n) n.to_tag) names

-- the dialog that an answer with a tag of To names
abbrev pub dialog_to : List ℕ → Option DialogNames → Option DialogId
dialog_to tag names = option_map (id_to tag) names
