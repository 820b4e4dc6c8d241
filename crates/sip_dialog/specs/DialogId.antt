-- What names a dialog (RFC 3261 12).
use Rattle.std.specs.Prelude.{ℕ, Bool, ◌&&◌, ◌||◌, List, [], Option, option_map}
use Rattle.std.specs.Option.{option_and_then, unwrap_or}
use Rattle.std.specs.Result.{result_ok}
use Rattle.std.specs.Str.{bytes_eq}
use Rattle.sip_message_fields.specs.declared.field.Field.{Field}
use Rattle.sip_message_fields.specs.declared.field_name.FieldName.TheVariants as Name
use Rattle.sip_header.specs.declared.core_fields.CoreFields.{CoreFields}
use Rattle.sip_header.specs.declared.name_addr.NameAddr.{NameAddr}
use Rattle.sip_header.specs.CoreFields.{name_addr_in}
use Rattle.sip_header.specs.Parameters.{tag_of}
use Rattle.sip_dialog.specs.declared.dialog.DialogId.{DialogId}

-- one Call-ID, and the same tags in either order: a proxy sees the requests of both sides (RFC 3261 12)
abbrev pub is_same_dialog : DialogId → DialogId → Bool
is_same_dialog a b =
    bytes_eq a.call_id b.call_id
    && ((bytes_eq a.from_tag b.from_tag && bytes_eq a.to_tag b.to_tag) || (bytes_eq a.from_tag b.to_tag && bytes_eq a.to_tag b.from_tag))

-- the dialog of a From and a To, if this has a tag; a From without one has an empty one (this project's profile)
abbrev pub id_with : List ℕ → NameAddr → NameAddr → Option DialogId
id_with call_id from to =
    option_map (λ tag. record { call_id = call_id; from_tag = unwrap_or (tag_of from.parameters) []; to_tag = tag }) (tag_of to.parameters)

-- the dialog that a request with these fields names, if its To has a tag (RFC 3261 12.2.2)
abbrev pub id_of : CoreFields → Option DialogId
id_of core = id_with core.call_id core.from core.to

-- the dialog that an answer with these fields names for an INVITE: the INVITE's Call-ID and From, and the answer's To, if there is
-- one and it has a tag (RFC 3261 12.1.1)
abbrev pub answer_id : CoreFields → List Field → Option DialogId
answer_id invite answer = option_and_then (id_with invite.call_id invite.from) (result_ok (name_addr_in Name.To answer))
