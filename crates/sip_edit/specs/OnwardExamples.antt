-- Requests that go on, for the worked examples.
use Rattle.std.specs.Prelude.{ℕ, List, [], ◌∷◌, ◌++◌, codes}
use Rattle.sip_message_fields.specs.declared.field_name.FieldName.TheVariants as Name
use Rattle.sip_message_fields.specs.declared.field.Field.{Field}
use Rattle.sip_message_form.specs.declared.message.Start.TheVariants.{Request, Status}
use Rattle.sip_message_form.specs.declared.message.Message.{Message}
use Rattle.sip_route.specs.Examples.{own, sample_realm}
use Rattle.sip_edit.specs.Examples.{client}
use Rattle.sip_edit.specs.ReceivedRequest.{received}
use Rattle.sip_edit.specs.OwnVia.{branch_text}
use Rattle.sip_edit.specs.Onward.{onward_of, with_record_route}

-- an INVITE that anybody sends to help@host.com
abbrev pub invite : Message
invite = record {
  start = Request (codes "INVITE") (codes "sip:help@host.com") (codes "SIP/2.0");
  fields =
      record { name = Name.Via; value = codes "SIP/2.0/UDP pc.host.com:5070;branch=z9hG4bKinv1;rport" }
      ∷ record { name = Name.MaxForwards; value = codes "70" }
      ∷ record { name = Name.From; value = codes "<sip:x@away.net>;tag=f1" }
      ∷ record { name = Name.To; value = codes "<sip:help@host.com>" }
      ∷ record { name = Name.CallId; value = codes "k1" }
      ∷ record { name = Name.CSeq; value = codes "7 INVITE" }
      ∷ record { name = Name.Contact; value = codes "<sip:x@127.0.0.1:5070>" }
      ∷ [];
  body = [];
}

-- as it goes on to the one binding of help@host.com; the fourth datagram brought it
abbrev pub onward_invite : Message
onward_invite = with_record_route own (onward_of own sample_realm (codes "sip:help@127.0.0.1:5082") (branch_text 0 4 1) (received invite client))

abbrev pub onward_invite_text : List ℕ
onward_invite_text =
    codes "INVITE sip:help@127.0.0.1:5082 SIP/2.0\r\n"
    ++ codes "Via: SIP/2.0/UDP sip.host.com:5060;branch=z9hG4bK0000000000000000.4.1\r\n"
    ++ codes "Record-Route: <sip:sip.host.com:5060;lr>\r\n"
    ++ codes "Via: SIP/2.0/UDP pc.host.com:5070;branch=z9hG4bKinv1;rport=5070;received=127.0.0.1\r\n"
    ++ codes "Max-Forwards: 69\r\n"
    ++ codes "From: <sip:x@away.net>;tag=f1\r\n"
    ++ codes "To: <sip:help@host.com>\r\n"
    ++ codes "Call-ID: k1\r\n"
    ++ codes "CSeq: 7 INVITE\r\n"
    ++ codes "Contact: <sip:x@127.0.0.1:5070>\r\n"
    ++ codes "Content-Length: 0\r\n\r\n"

-- a 486 with this To
abbrev pub busy_with : List Field → Message
busy_with to = record { start = Status 486 (codes "Busy Here"); fields = to; body = [] }

abbrev pub tagged_to : Field
tagged_to = record { name = Name.To; value = codes "<sip:help@host.com>;tag=t1" }

-- the ACK of a 486 to it, and its CANCEL
abbrev pub ack_text : List ℕ
ack_text =
    codes "ACK sip:help@127.0.0.1:5082 SIP/2.0\r\n"
    ++ codes "Via: SIP/2.0/UDP sip.host.com:5060;branch=z9hG4bK0000000000000000.4.1\r\n"
    ++ codes "Max-Forwards: 70\r\n"
    ++ codes "From: <sip:x@away.net>;tag=f1\r\n"
    ++ codes "To: <sip:help@host.com>;tag=t1\r\n"
    ++ codes "Call-ID: k1\r\n"
    ++ codes "CSeq: 7 ACK\r\n"
    ++ codes "Content-Length: 0\r\n\r\n"

abbrev pub cancel_text : List ℕ
cancel_text =
    codes "CANCEL sip:help@127.0.0.1:5082 SIP/2.0\r\n"
    ++ codes "Via: SIP/2.0/UDP sip.host.com:5060;branch=z9hG4bK0000000000000000.4.1\r\n"
    ++ codes "Max-Forwards: 70\r\n"
    ++ codes "From: <sip:x@away.net>;tag=f1\r\n"
    ++ codes "To: <sip:help@host.com>\r\n"
    ++ codes "Call-ID: k1\r\n"
    ++ codes "CSeq: 7 CANCEL\r\n"
    ++ codes "Content-Length: 0\r\n\r\n"

-- a MESSAGE that anybody sends to help@host.com
abbrev pub text_message : Message
text_message = record {
  start = Request (codes "MESSAGE") (codes "sip:help@host.com") (codes "SIP/2.0");
  fields =
      record { name = Name.Via; value = codes "SIP/2.0/UDP pc.host.com:5070;branch=z9hG4bKmsg1;rport" }
      ∷ record { name = Name.MaxForwards; value = codes "70" }
      ∷ record { name = Name.From; value = codes "<sip:x@away.net>;tag=f1" }
      ∷ record { name = Name.To; value = codes "<sip:help@host.com>" }
      ∷ record { name = Name.CallId; value = codes "k2" }
      ∷ record { name = Name.CSeq; value = codes "8 MESSAGE" }
      ∷ [];
  body = [];
}

-- as it goes on; the third datagram brought it
abbrev pub onward_message : Message
onward_message = onward_of own sample_realm (codes "sip:help@127.0.0.1:5082") (branch_text 0 3 1) (received text_message client)

abbrev pub onward_message_text : List ℕ
onward_message_text =
    codes "MESSAGE sip:help@127.0.0.1:5082 SIP/2.0\r\n"
    ++ codes "Via: SIP/2.0/UDP sip.host.com:5060;branch=z9hG4bK0000000000000000.3.1\r\n"
    ++ codes "Via: SIP/2.0/UDP pc.host.com:5070;branch=z9hG4bKmsg1;rport=5070;received=127.0.0.1\r\n"
    ++ codes "Max-Forwards: 69\r\n"
    ++ codes "From: <sip:x@away.net>;tag=f1\r\n"
    ++ codes "To: <sip:help@host.com>\r\n"
    ++ codes "Call-ID: k2\r\n"
    ++ codes "CSeq: 8 MESSAGE\r\n"
    ++ codes "Content-Length: 0\r\n\r\n"

-- fields that change on the way: a Route of this server's, credentials of two realms and malformed ones, a Route of another place,
-- and no Max-Forwards
abbrev pub changing : List Field
changing =
    record { name = Name.ProxyAuthorization; value = codes "Digest username=\"a\", realm=\"testrealm@host.com\"" }
    ∷ record { name = Name.Route; value = codes "<sip:host.com>" }
    ∷ record { name = Name.ProxyAuthorization; value = codes "Digest username=\"a\", realm=\"other\"" }
    ∷ record { name = Name.Route; value = codes "<sip:far.net>" }
    ∷ record { name = Name.ProxyAuthorization; value = codes "Digest realm=\"testrealm@host.com\"," }
    ∷ record { name = Name.Authorization; value = codes "Digest username=\"a\", realm=\"testrealm@host.com\"" }
    ∷ []

-- an OPTIONS with some fields
abbrev pub options : List Field → Message
options fields = record { start = Request (codes "OPTIONS") (codes "SIP:a@far.net") (codes "SIP/2.0"); fields = fields; body = codes "x" }

-- the same fields as they go on
abbrev pub changed : List Field
changed =
    record { name = Name.ProxyAuthorization; value = codes "Digest username=\"a\", realm=\"other\"" }
    ∷ record { name = Name.Route; value = codes "<sip:far.net>" }
    ∷ record { name = Name.ProxyAuthorization; value = codes "Digest realm=\"testrealm@host.com\"," }
    ∷ record { name = Name.Authorization; value = codes "Digest username=\"a\", realm=\"testrealm@host.com\"" }
    ∷ record { name = Name.MaxForwards; value = codes "70" }
    ∷ []

-- a Max-Forwards before a Subject
abbrev pub hops : List ℕ → List Field
hops value = record { name = Name.MaxForwards; value = value } ∷ record { name = Name.Subject; value = codes "I know you" } ∷ []
