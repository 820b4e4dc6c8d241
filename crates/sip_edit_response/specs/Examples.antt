-- Worked examples.
use Rattle.std.specs.Prelude.{ℕ, Bool, List, [], ◌∷◌, ◌++◌, codes, false}
use Rattle.sip_message_fields.specs.declared.field_name.FieldName.TheVariants as Name
use Rattle.sip_message_fields.specs.declared.field.Field.{Field}
use Rattle.sip_message_form.specs.declared.message.Start.TheVariants.{Request}
use Rattle.sip_message_form.specs.declared.message.Message.{Message}
use Rattle.sip_edit_response.specs.Challenges.{challenge_fields}
use Rattle.sip_edit_response.specs.Reply.{reply_of}
use Rattle.sip_edit_response.specs.Tags.{to_tag}

-- a REGISTER from 127.0.0.1:5062, whose Via stays as it is where it is received (RFC 3261 18.2.1)
abbrev pub register : Message
register = record {
  start = Request (codes "REGISTER") (codes "sip:host.com") (codes "SIP/2.0");
  fields =
      record { name = Name.Via; value = codes "SIP/2.0/UDP 127.0.0.1:5062;branch=z9hG4bKreg1" }
      ∷ record { name = Name.MaxForwards; value = codes "70" }
      ∷ record { name = Name.From; value = codes "<sip:Mufasa@host.com>;tag=a1" }
      ∷ record { name = Name.To; value = codes "<sip:Mufasa@host.com>" }
      ∷ record { name = Name.CallId; value = codes "c1@127.0.0.1" }
      ∷ record { name = Name.CSeq; value = codes "1 REGISTER" }
      ∷ record { name = Name.Contact; value = codes "<sip:Mufasa@127.0.0.1:5062>" }
      ∷ [];
  body = [];
}

-- an INVITE with a tag in its To and a Timestamp, without a CSeq
abbrev pub timed_invite : Message
timed_invite = record {
  start = Request (codes "INVITE") (codes "sip:help@host.com") (codes "SIP/2.0");
  fields =
      record { name = Name.Timestamp; value = codes "54" }
      ∷ record { name = Name.CallId; value = codes "k1" }
      ∷ record { name = Name.To; value = codes "<sip:help@host.com>;tag=t1" }
      ∷ record { name = Name.From; value = codes "<sip:x@away.net>;tag=f1" }
      ∷ record { name = Name.Via; value = codes "SIP/2.0/UDP 127.0.0.1;branch=z9hG4bKinv1" }
      ∷ record { name = Name.Via; value = codes "SIP/2.0/UDP pc.host.com;branch=z9hG4bKinv0" }
      ∷ [];
  body = codes "v=0";
}

-- the fields that challenge with the first nonce, with SHA-256 or without
abbrev pub first_challenge : Bool → List Field
first_challenge with_sha256 = challenge_fields Name.WwwAuthenticate with_sha256 (codes "testrealm@host.com")
    (codes "00000000000000000000000000000001") false

-- the REGISTER challenged by the first datagram's answer
abbrev pub challenged_by : List Field → Message
challenged_by fields = reply_of register 401 (to_tag 0 1) fields

-- the same by MD5 alone
abbrev pub challenged : Message
challenged = challenged_by (first_challenge false)

-- the written form of the REGISTER challenged, with lines that challenge
abbrev pub challenged_with : List ℕ → List ℕ
challenged_with lines =
    codes "SIP/2.0 401 Unauthorized\r\n"
    ++ codes "Via: SIP/2.0/UDP 127.0.0.1:5062;branch=z9hG4bKreg1\r\n"
    ++ codes "From: <sip:Mufasa@host.com>;tag=a1\r\n"
    ++ codes "To: <sip:Mufasa@host.com>;tag=0000000000000000.1\r\n"
    ++ codes "Call-ID: c1@127.0.0.1\r\n"
    ++ codes "CSeq: 1 REGISTER\r\n"
    ++ lines
    ++ codes "Content-Length: 0\r\n\r\n"

-- by MD5 alone
abbrev pub challenged_text : List ℕ
challenged_text = challenged_with
    (codes "WWW-Authenticate: Digest realm=\"testrealm@host.com\", nonce=\"00000000000000000000000000000001\", algorithm=MD5, qop=\"auth\"\r\n")

-- by SHA-256 and by MD5
abbrev pub challenged_twice_text : List ℕ
challenged_twice_text =
    challenged_with
    (codes "WWW-Authenticate: Digest realm=\"testrealm@host.com\", nonce=\"00000000000000000000000000000001\", algorithm=SHA-256, qop=\"auth\"\r\n"
    ++ codes "WWW-Authenticate: Digest realm=\"testrealm@host.com\", nonce=\"00000000000000000000000000000001\", algorithm=MD5, qop=\"auth\"\r\n")
