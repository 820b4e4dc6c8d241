-- The requests that this server makes: ACK of a final answer that is no 2xx, and CANCEL.
use Rattle.std.specs.Prelude.{ℕ, List, [], ◌∷◌, ◌++◌, decimal, codes, Option, Some, None, option_map}
use Rattle.std.specs.Option.{option_and_then, option_to_list}
use Rattle.sip_message_fields.specs.declared.field_name.FieldName.TheVariants as Name
use Rattle.sip_message_fields.specs.declared.field.Field.{Field}
use Rattle.sip_message_form.specs.declared.message.Start.TheVariants.{Request}
use Rattle.sip_message_form.specs.declared.message.Message.{Message}
use Rattle.sip_message_fields.specs.Named.{all_named, first_of}
use Rattle.sip_route.specs.header.declared.cseq.CSeq.{CSeq}
use Rattle.sip_route.specs.header.CSeq.{cseq_of}
use Rattle.sip_message_fields.specs.Values.{first_value}
use Rattle.sip_route.specs.Way.{request_uri}

-- a Max-Forwards of 70 (RFC 3261 8.1.1.6)
abbrev pub seventy : Field
seventy = record { name = Name.MaxForwards; value = codes "70" }

-- a CSeq with the number of another
abbrev pub cseq_with : List ℕ → Option CSeq → List Field
cseq_with method None = []
cseq_with method (Some cseq) = record { name = Name.CSeq; value = decimal cseq.number ++ codes " " ++ method } ∷ []

-- The fields of a request that belongs to one that was sent: its top Via, From, Call-ID, the number of its CSeq and its Routes, with
-- Max-Forwards 70 and this To.
abbrev pub fields_like : List ℕ → List Field → List Field → List Field
fields_like method to sent =
    first_of Name.Via sent ++ seventy ∷ (first_of Name.From sent ++ to ++ first_of Name.CallId sent
    ++ cseq_with method (option_and_then cseq_of (first_value Name.CSeq sent))
    ++ all_named Name.Route sent)

-- the request that these fields belong to
abbrev pub request_like : List ℕ → List Field → Message → Message
request_like method to sent =
    record { start = Request method (request_uri sent.start) (codes "SIP/2.0"); fields = fields_like method to sent.fields; body = [] }

-- a To of this value, if there is one
abbrev pub to_field : Option (List ℕ) → List Field
to_field to = option_to_list (option_map (λ value. record { name = Name.To; value = value }) to)

-- the ACK of a final answer with this To, if that had one, to an INVITE that was sent (RFC 3261 17.1.1.3)
abbrev pub ack_with : Option (List ℕ) → Message → Message
ack_with to sent = request_like (codes "ACK") (to_field to) sent

-- the ACK of a response to an INVITE that was sent: its To is the response's, if that has one (RFC 3261 17.1.1.3)
abbrev pub ack_of : Message → Message → Message
ack_of sent response = ack_with (first_value Name.To response.fields) sent

-- the CANCEL of a request that was sent (RFC 3261 9.1)
abbrev pub cancel_of : Message → Message
cancel_of sent = request_like (codes "CANCEL") (first_of Name.To sent.fields) sent
