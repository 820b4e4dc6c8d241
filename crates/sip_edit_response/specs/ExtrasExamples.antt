-- Requests that are refused, for the worked examples.
use Rattle.std.specs.Prelude.{ℕ, List, [], ◌∷◌, ◌++◌, codes}
use Rattle.sip_message_fields.specs.declared.field_name.FieldName.TheVariants as Name
use Rattle.sip_message_fields.specs.declared.field.Field.{Field}
use Rattle.sip_message_form.specs.declared.message.Start.TheVariants.{Request}
use Rattle.sip_message_form.specs.declared.message.Message.{Message}
use Rattle.sip_message_form.specs.Text.{text_of}
use Rattle.sip_edit_response.specs.Reply.{reply_of}
use Rattle.sip_edit_response.specs.Tags.{to_tag}

-- an INVITE as it was received from 127.0.0.1:5070 (RFC 3261 18.2.1, RFC 3581 4), with a branch, To and Call-ID of its own
abbrev pub invite_of : List ℕ → List ℕ → List ℕ → List ℕ → Message
invite_of via to call_id cseq = record {
  start = Request (codes "INVITE") (codes "sip:help@host.com") (codes "SIP/2.0");
  fields =
      record { name = Name.Via; value = via }
      ∷ record { name = Name.MaxForwards; value = codes "70" }
      ∷ record { name = Name.From; value = codes "<sip:x@away.net>;tag=f1" }
      ∷ record { name = Name.To; value = to }
      ∷ record { name = Name.CallId; value = call_id }
      ∷ record { name = Name.CSeq; value = cseq }
      ∷ [];
  body = [];
}

abbrev pub first_via : List ℕ
first_via = codes "SIP/2.0/UDP pc.host.com:5070;branch=z9hG4bKinv1;rport=5070;received=127.0.0.1"

-- to vault@host.com, and to help@host.com
abbrev pub to_vault : Message
to_vault = invite_of first_via (codes "<sip:vault@host.com>") (codes "k1") (codes "7 INVITE")

abbrev pub to_help : Message
to_help = invite_of first_via (codes "<sip:help@host.com>") (codes "k1") (codes "7 INVITE")

-- one that needs extensions
abbrev pub extended : Message
extended = invite_of (codes "SIP/2.0/UDP 127.0.0.1:5070;branch=z9hG4bKa2;rport=5070;received=127.0.0.1") (codes "<sip:help@host.com>")
    (codes "k9") (codes "1 INVITE")

-- the text of the answer to the request of a datagram
abbrev pub answer_text : Message → ℕ → ℕ → List Field → List ℕ
answer_text request number status extras = text_of (reply_of request status (to_tag 0 number) extras)

abbrev pub denied_text : List ℕ
denied_text =
    codes "SIP/2.0 403 Forbidden\r\n"
    ++ codes "Via: SIP/2.0/UDP pc.host.com:5070;branch=z9hG4bKinv1;rport=5070;received=127.0.0.1\r\n"
    ++ codes "From: <sip:x@away.net>;tag=f1\r\n"
    ++ codes "To: <sip:vault@host.com>;tag=0000000000000000.1\r\n"
    ++ codes "Call-ID: k1\r\n"
    ++ codes "CSeq: 7 INVITE\r\n"
    ++ codes "Warning: 399 sip.host.com \"policy rule 3\"\r\n"
    ++ codes "Content-Length: 0\r\n\r\n"
