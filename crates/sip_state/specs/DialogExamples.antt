-- A call of x's to help, as its dialogs see it, for the worked examples.
use Rattle.std.specs.Prelude.{ℕ, List, [], ◌∷◌, ◌++◌, codes, Some, None}
use Rattle.sip_message_fields.specs.declared.field_name.FieldName.TheVariants as Name
use Rattle.sip_message_fields.specs.declared.field.Field.{Field}
use Rattle.sip_message_form.specs.declared.message.Start.TheVariants.{Request, Status}
use Rattle.sip_message_form.specs.declared.message.Message.{Message}
use Rattle.sip_hops.specs.Examples as Places
use Rattle.sip_config_types.specs.Sample as Settings
use Rattle.sip_dialog.specs.declared.dialog.DialogId.{DialogId}
use Rattle.sip_dialog.specs.declared.dialog.Dialog.{Dialog}
use Rattle.sip_state.specs.declared.open_request.Side.TheVariants.{Answering, Closed}
use Rattle.sip_state.specs.declared.open_request.OpenRequest.{OpenRequest}
use Rattle.sip_state.specs.declared.open_request.Upward.{Upward}
use Rattle.sip_state.specs.declared.server.Server.{Server}
use Rattle.sip_state.specs.State.{first_resend}
use Rattle.sip_state.specs.Dialogs.{after_answer}

-- a server of the sample configuration, started with the word 0
abbrev pub sample : Server
sample = record { config = Settings.sample; word = 0 }

-- a message of the call: its start, To and Contact
abbrev pub message_with : List ℕ → List Field → Message
message_with method more =
    record {
      start = Request method (codes "sip:help@host.com") (codes "SIP/2.0");
      fields =
          record { name = Name.Via; value = codes "SIP/2.0/UDP pc.host.com:5070;branch=z9hG4bKinv1;rport" }
          ∷ record { name = Name.From; value = codes "<sip:x@away.net>;tag=f1" }
          ∷ record { name = Name.CallId; value = codes "k1" }
          ∷ record { name = Name.CSeq; value = codes "7 " ++ method }
          ∷ more;
      body = [];
    }

-- To, with the tag of the one who answered if it has one
abbrev pub to_help : List ℕ → Field
to_help tag = record { name = Name.To; value = codes "<sip:help@host.com>" ++ tag }

-- a Contact at a port of 127.0.0.1
abbrev pub contact_at : List ℕ → Field
contact_at port = record { name = Name.Contact; value = codes "<sip:x@127.0.0.1:" ++ port ++ codes ">" }

-- the open request of a message that came from port 5070 at 62,000 as the fourth datagram
abbrev pub open_with : List ℕ → Message → OpenRequest
open_with method m =
    record {
      key = record { branch = codes "z9hG4bKinv1"; host = codes "pc.host.com"; port = 5070; method = method };
      request = record { message = m; source = Places.local 5070 };
      number = 4;
      arrived_at = 62000;
      answer = None;
      side = Answering;
      again = first_resend 62000;
      finals = [];
      branches = [];
    }

-- the INVITE that begins the call, with these further fields
abbrev pub invite_with : List Field → OpenRequest
invite_with more = open_with (codes "INVITE") (message_with (codes "INVITE") (to_help [] ∷ more))

-- an answer that came from port 5082 goes to the caller, with To tag t1 and a Contact there
abbrev pub answer_with : ℕ → Upward
answer_with status =
    record {
      status = status;
      message = record (message_with (codes "INVITE") (to_help (codes ";tag=t1") ∷ contact_at (codes "5082") ∷ []))
          { start = Status status (codes "Answer") };
      target = Some (Places.local 5082);
    }

-- the dialogs after an answer to the INVITE went to the caller
abbrev pub answered_with : ℕ → List Dialog
answered_with status = after_answer sample 62100 (invite_with (contact_at (codes "5071") ∷ [])) (answer_with status) []

-- the same where the INVITE has no Contact
abbrev pub answered_without_contact : List Dialog
answered_without_contact = after_answer sample 62100 (invite_with []) (answer_with 200) []

-- the call by the caller's tag and the other's
abbrev pub call_of : List ℕ → List ℕ → DialogId
call_of from to = record { call_id = codes "k1"; from_tag = from; to_tag = to }

-- the caller's name for the call
abbrev pub call : DialogId
call = call_of (codes "f1") (codes "t1")

-- the INVITE has left
abbrev pub left : OpenRequest
left = record (invite_with []) { side = Closed }

-- a further INVITE of the caller's in the call, whose Contact is at port 5099
abbrev pub moved : List ℕ → Message
moved method = message_with method (to_help (codes ";tag=t1") ∷ contact_at (codes "5099") ∷ [])

-- an answer to a BYE in the call goes to the caller
abbrev pub bye_answered : ℕ → List Dialog
bye_answered status =
    after_answer sample 70000 (open_with (codes "BYE") (message_with (codes "BYE") (to_help (codes ";tag=t1") ∷ []))) (answer_with status)
    (answered_with 200)
