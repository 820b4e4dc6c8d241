-- The written form of a message (RFC 3261 7).
use Rattle.std.specs.Prelude.{◌≡◌, ℕ, List, ◌++◌, length, codes, decimal, Option, IfSome}
use denote.Ref.{Bor}
use Rattle.std.specs.List.{flat_map}
use Rattle.sip_message_fields.specs.declared.field.Field.{Field}
use Rattle.sip_message_form.specs.declared.message.Start.{Start}
use Rattle.sip_message_form.specs.declared.message.Start.TheVariants.{Request, Status}
use Rattle.sip_message_form.specs.declared.message.Message.{Message}
use Rattle.sip_message_fields.specs.FieldName.{spelling}

-- a start line without its CRLF (RFC 3261 7.1, 7.2)
abbrev pub start_text : Start → List ℕ
start_text (Request method uri version) = method ++ codes " " ++ uri ++ codes " " ++ version
start_text (Status code reason) = codes "SIP/2.0 " ++ decimal code ++ codes " " ++ reason

-- a field without its CRLF: its name in full, `: `, its value (RFC 3261 7.3.1)
abbrev pub field_line : Field → List ℕ
field_line f = spelling f.name ++ codes ": " ++ f.value

-- a field with its CRLF
abbrev pub field_text : Field → List ℕ
field_text f = field_line f ++ codes "\r\n"

-- bytes, if there are some, are the lines of fields, each with its CRLF, one behind the other
abbrev pub AreLinesOf : Option (Bor (List ℕ)) → List Field → Type 0
AreLinesOf lines fields = IfSome lines (λ l. l.now ≡ flat_map field_text fields)

-- start line, fields, the length of the body, the empty line, the body (RFC 3261 7; Content-Length last: this project's profile)
abbrev pub text_of : Message → List ℕ
text_of m = start_text m.start ++ codes "\r\n" ++ flat_map field_text m.fields ++ codes "Content-Length: " ++ decimal (length m.body)
    ++ codes "\r\n\r\n" ++ m.body
