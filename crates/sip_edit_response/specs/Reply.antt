-- Responses that are made here (RFC 3261 8.2.6).
use Rattle.std.specs.Prelude.{ℕ, Bool, false, ◌==◌, ◌&&◌, not, if◌then◌else◌, List, [], ◌++◌, map, codes, Option, Some, None, is_some}
use Rattle.sip_message_fields.specs.declared.field_name.FieldName.TheVariants.{Via, From, To, CallId, CSeq, Timestamp}
use Rattle.sip_message_fields.specs.declared.field.Field.{Field}
use Rattle.sip_message_form.specs.declared.message.Start.TheVariants.{Status}
use Rattle.sip_message_form.specs.declared.message.Message.{Message}
use Rattle.sip_message_fields.specs.Named.{all_named, first_of}
use Rattle.sip_header.specs.declared.name_addr.NameAddr.{NameAddr}
use Rattle.sip_header.specs.NameAddr.{name_addr_of}
use Rattle.sip_header.specs.Parameters.{tag_of}
use Rattle.sip_edit_response.specs.Reasons.{reason_of}

-- whether a To takes a tag: it can be read, and it has none
abbrev pub lacks_tag : Option NameAddr → Bool
lacks_tag None = false
lacks_tag (Some to) = not (is_some (tag_of to.parameters))

-- the value of To in a response: with a tag where it takes one, and as it came in a 100 (RFC 3261 8.2.6.2)
abbrev pub answered_to : ℕ → List ℕ → List ℕ → List ℕ
answered_to status tag to = if not (status == 100) && lacks_tag (name_addr_of to) then to ++ codes ";tag=" ++ tag else to

-- a To field in a response
abbrev pub answered_field : ℕ → List ℕ → Field → Field
answered_field status tag to = record to { value = answered_to status tag to.value }

-- a 100 copies the first Timestamp (RFC 3261 8.2.6.1)
abbrev pub timestamp_for : ℕ → List Field → List Field
timestamp_for status fields = if status == 100 then first_of Timestamp fields else []

-- The fields of a response: all the Via items in their order; the first From, To, Call-ID and CSeq that are there, of these To with
-- a tag; the Timestamp of
-- a 100; and further fields (RFC 3261 8.2.6.1, 8.2.6.2).
abbrev pub reply_fields : ℕ → List ℕ → List Field → List Field → List Field
reply_fields status tag fields extras =
    all_named Via fields ++ first_of From fields ++ map (answered_field status tag) (first_of To fields) ++ first_of CallId fields
    ++ first_of CSeq fields
    ++ timestamp_for status fields ++ extras

-- the response to a request with this status, To tag and further fields (RFC 3261 8.2.6)
abbrev pub reply_of : Message → ℕ → List ℕ → List Field → Message
reply_of request status tag extras =
    record { start = Status status (reason_of status); fields = reply_fields status tag request.fields extras; body = [] }
