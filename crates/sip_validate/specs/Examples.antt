-- Requests for the worked examples.
use Rattle.std.specs.Prelude.{ℕ, List, [], ◌∷◌, ◌++◌, replicate, codes}
use Rattle.std.specs.Str.{byte}
use Rattle.sip_message_fields.specs.declared.field.Field.{Field}
use Rattle.sip_message_fields.specs.declared.field_name.FieldName.{FieldName}
use Rattle.sip_message_fields.specs.declared.field_name.FieldName.TheVariants as Name
use Rattle.sip_message_form.specs.declared.message.Start.TheVariants.{Request, Status}
use Rattle.sip_message_form.specs.declared.message.Message.{Message}

abbrev pub field : FieldName → List ℕ → Field
field name value = record { name = name; value = value }

-- the Via, From and Call-ID of an INVITE, and further fields
abbrev pub fields_with : List Field → List Field
fields_with more =
    field Name.Via (codes "SIP/2.0/UDP 127.0.0.1:5070;branch=z9hG4bKa1;rport")
    ∷ field Name.From (codes "<sip:x@away.net>;tag=f1")
    ∷ field Name.CallId (codes "k9")
    ∷ more

-- the same with a To and a CSeq, too
abbrev pub all_with : List Field → List Field
all_with more = fields_with (field Name.To (codes "<sip:help@host.com>") ∷ field Name.CSeq (codes "1 INVITE") ∷ more)

-- the Via, From, To and CSeq of an INVITE, and further fields
abbrev pub without_call_id : List Field → List Field
without_call_id more =
    field Name.Via (codes "SIP/2.0/UDP 127.0.0.1:5070;branch=z9hG4bKa1;rport")
    ∷ field Name.From (codes "<sip:x@away.net>;tag=f1")
    ∷ field Name.To (codes "<sip:help@host.com>")
    ∷ field Name.CSeq (codes "1 INVITE")
    ∷ more

-- a response without fields
abbrev pub response : Message
response = record { start = Status 200 (codes "OK"); fields = []; body = [] }

-- an INVITE with these fields
abbrev pub invite : List ℕ → List ℕ → List Field → Message
invite uri version fields = record { start = Request (codes "INVITE") uri version; fields = fields; body = [] }

-- an INVITE to `sip:help@host.com` with these fields behind the others
abbrev pub invite_with : List Field → Message
invite_with more = invite (codes "sip:help@host.com") (codes "SIP/2.0") (all_with more)

-- the same to another Request-URI
abbrev pub invite_to : List ℕ → List Field → Message
invite_to uri more = invite uri (codes "SIP/2.0") (all_with more)

-- a REGISTER with this To, and these fields behind the others
abbrev pub register : List ℕ → List Field → Message
register to more =
    record {
      start = Request (codes "REGISTER") (codes "sip:host.com") (codes "SIP/2.0");
      fields = fields_with (field Name.To to ∷ field Name.CSeq (codes "1 REGISTER") ∷ more);
      body = [];
    }

-- a REGISTER of `sip:Mufasa@host.com`
abbrev pub register_with : List Field → Message
register_with more = register (codes "<sip:Mufasa@host.com>") more

-- a contact whose URI has this many bytes and four
abbrev pub long_contact : ℕ → Field
long_contact n = field Name.Contact (codes "<sip:" ++ replicate n (byte "a") ++ codes ">")
