-- A request that this server makes for one that went to a target, by the fields of that as it came.
use Rattle.std.specs.Prelude.{◌≡◌, ℕ, Bool, List, [], ◌∷◌, ◌++◌, decimal, codes, Option}
use Rattle.std.specs.Option.{option_and_then}
use Rattle.sip_message_fields.specs.declared.field_name.FieldName.TheVariants as Name
use Rattle.sip_message_fields.specs.declared.field.Field.{Field}
use Rattle.sip_message_form.specs.declared.message.Start.TheVariants.{Request}
use Rattle.sip_message_form.specs.declared.message.Message.{Message}
use Rattle.sip_message_form.specs.Text.{start_text, field_text, text_of}
use Rattle.sip_message_fields.specs.Named.{all_named, first_of}
use Rattle.sip_message_fields.specs.Values.{first_value, with_first}
use Rattle.sip_route.specs.header.CSeq.{cseq_of}
use Rattle.sip_route.specs.declared.routes_kept.RoutesKept.{RoutesKept}
use Rattle.sip_route.specs.RoutesKept.{fields_kept}
use Rattle.sip_route.specs.declared.own.Own.{Own}
use Rattle.sip_route.specs.Way.{request_uri, fields_left}
use Rattle.sip_uri.specs.declared.addr.Addr.{Addr}
use Rattle.sip_edit.specs.ReceivedRequest.{received}
use Rattle.sip_edit.specs.Onward.{with_uri, onward_base, to_target}
use Rattle.sip_edit.specs.OwnRequests.{seventy, cseq_with, ack_with, cancel_of}

-- what such a request takes over, behind this To: a CSeq of its method, and of the Routes those that are left
abbrev pub taken_over : List ℕ → List Field → RoutesKept → List Field → List Field
taken_over method to routes came =
    first_of Name.From came ++ to ++ first_of Name.CallId came ++ cseq_with method (option_and_then cseq_of (first_value Name.CSeq came))
    ++ all_named Name.Route (fields_kept routes came)

-- its fields, with this server's Via of a value
abbrev pub fields_beside : List ℕ → List Field → List ℕ → RoutesKept → List Field → List Field
fields_beside method to via routes came = record { name = Name.Via; value = via } ∷ seventy ∷ taken_over method to routes came

-- the request, with the target's Request-URI
abbrev pub beside : List ℕ → List Field → List ℕ → List ℕ → RoutesKept → Message → Message
beside method to uri via routes came =
    record {
      start = Request method (request_uri (with_uri uri came.start)) (codes "SIP/2.0");
      fields = fields_beside method to via routes came.fields;
      body = [];
    }

-- ---- its text

-- what stands before all that it takes over
abbrev pub front_text : List ℕ → List ℕ → List ℕ → List ℕ
front_text method uri via =
    start_text (Request method uri (codes "SIP/2.0")) ++ codes "\r\n" ++ field_text (record { name = Name.Via; value = via }) ++ codes "Max-Forwards: 70\r\n"

-- a CSeq of a number and a method, with its CRLF
abbrev pub cseq_text : ℕ → List ℕ → List ℕ
cseq_text number method = codes "CSeq: " ++ decimal number ++ codes " " ++ method ++ codes "\r\n"

-- ---- whose text it is

-- whether these Routes are what is left of a request without a server's own part of the way, whatever value its top Via has
abbrev pub AreLeft : Own → RoutesKept → Message → Type 0
AreLeft own routes came =
    (value : List ℕ) → fields_kept routes (with_first Name.Via value came.fields)
    ≡ fields_left own (request_uri came.start) (with_first Name.Via value came.fields)

-- The text of the ACK with this To of an INVITE that came so and went to a target with this Request-URI and this server's Via of a value:
-- the INVITE came from any address, and goes on from any server that leaves it these Routes.
abbrev pub IsAckText : Option (List ℕ) → List ℕ → List ℕ → RoutesKept → Message → List ℕ → Type 0
IsAckText to uri via routes came text =
    (own : Own) (realm : List ℕ) (records_route : Bool) (from : Addr) → AreLeft own routes came
    → text ≡ text_of (ack_with to (to_target uri via (onward_base own realm records_route (received came from))))

-- the text of the CANCEL of such a request
abbrev pub IsCancelText : List ℕ → List ℕ → RoutesKept → Message → List ℕ → Type 0
IsCancelText uri via routes came text =
    (own : Own) (realm : List ℕ) (records_route : Bool) (from : Addr) → AreLeft own routes came
    → text ≡ text_of (cancel_of (to_target uri via (onward_base own realm records_route (received came from))))
