-- Requests, ACKs and CANCELs for which there is no reason.
use Rattle.std.specs.Prelude.{ℕ, false, [], ◌∷◌, ◌++◌, codes, Some, None}
use Rattle.sip_message_fields.specs.declared.field_name.FieldName.TheVariants as Name
use Rattle.sip_message_form.specs.declared.message.Start.TheVariants.{Status}
use Rattle.sip_message_form.specs.declared.message.Message.{Message}
use Rattle.sip_message_form.specs.Text.{text_of}
use Rattle.sip_hops.specs.Examples.{local}
use Rattle.sip_edit.specs.OnwardExamples as Onward
use Rattle.sip_edit.specs.OwnRequests.{cancel_of}
use Rattle.sip_edit.specs.OwnVia.{without_top_via}
use Rattle.sip_event.specs.declared.packet.Packet.{Packet}
use Rattle.sip_model.specs.state.declared.proxy_state.ProxyState.{ProxyState}
use Rattle.sip_model.specs.state.declared.branch.Branch.{Branch}
use Rattle.sip_model.specs.state.declared.branch.Phase.TheVariants.{Unheard, Done}
use Rattle.sip_model.specs.state.declared.open_request.OpenRequest.{OpenRequest}
use Rattle.sip_model.specs.state.declared.open_request.Side.TheVariants.{Answering}
use Rattle.sip_model.specs.state.State.{first_resend}
use Rattle.sip_model.specs.context_model.Calls.{branch_at, cancel_at, call_to, first_branch, first_ringing, one_rings, one_target}
use Rattle.sip_model.specs.context_model.Calls.{second_branch, cancelled_target}
use Rattle.sip_model.specs.context_model.Sending.{onward_as, answer_to, request_of, to_branch, branch_packets, ack_packets}
use Rattle.sip_model.specs.steps_model.Examples.{sample, knowing, ringing_from, answer_with, branch_via, bye, own_route, help_text}
use Rattle.sip_model.specs.steps_model.Step.{Act, Passing}
use Rattle.sip_model.specs.Run.{Link}
use Rattle.sip_model.specs.Access.{sent_for}
use Rattle.model_laws.specs.Links.{knowing_open, saying, sending}
use Rattle.model_laws.specs.WrongAnswers.{answer_to_invite}

-- ---- requests of a dialog

-- a BYE of the call that help accepted, from its caller
abbrev pub ending : Message
ending = bye help_text (codes "t1") (own_route ∷ [])

-- it comes while no request is open
abbrev pub before_bye : ProxyState → ProxyState
before_bye known = knowing_open known 6 69000 []

abbrev pub bye_comes : Act
bye_comes = saying 70000 5070 ending

-- the BYE as it goes on to port 5082, as the request of the datagram of a number
abbrev pub onward_bye : ℕ → Packet
onward_bye number =
    record {
      to = local 5082;
      bytes = text_of (onward_as sample number ending (local 5070) help_text 1);
      ticket = record { datagram = number; branch = 1 };
      again = false;
    }

-- what is to go, goes; and then the BYE goes on once more in the same step
abbrev pub sent_twice : ProxyState → ProxyState → Link
sent_twice known after = sending (before_bye known) bye_comes 70000 (sent_for sample (before_bye known) bye_comes ++ onward_bye 6 ∷ []) after

-- that BYE, as it is open after it went on
abbrev pub bye_open : OpenRequest
bye_open =
    record {
      key = record { branch = codes "z9hG4bKbye1"; host = codes "pc.host.com"; port = 5070; method = codes "BYE" };
      request = record { message = ending; source = local 5070 };
      number = 6;
      arrived_at = 70000;
      answer = None;
      side = Answering;
      again = first_resend 70000;
      finals = [];
      branches = record first_branch { phase = Unheard 102000; again = first_resend 70000 } ∷ [];
    }

-- it comes once more, as a copy, and goes on as a request of its own
abbrev pub copy_goes_on : ProxyState → ProxyState → Link
copy_goes_on known after = sending (knowing_open known 7 70000 (bye_open ∷ [])) (saying 70300 5070 ending) 70300 (onward_bye 7 ∷ []) after

-- ---- a CANCEL

-- an INVITE was sent to one target, which rings until Timer C at 248,000; at 100,000 it is sent a CANCEL
abbrev pub unwanted_cancel : ProxyState → ProxyState → Link
unwanted_cancel known after =
    sending (knowing_open known 6 63000 (one_rings ∷ [])) (Passing 100000) 100000
    (to_branch one_rings first_ringing 0 false (cancel_of (request_of sample one_rings first_ringing))) after

-- What came before may be this: the INVITE came to a server that knows help's binding, and got its 100 and its request to the
-- target; and the target's 180 came, and went to the caller.
abbrev pub invite_came : Link
invite_came =
    sending (knowing_open (knowing (codes "5082" ∷ [])) 4 61000 []) (saying 62000 5070 Onward.invite) 62000
    (answer_to_invite 100 ∷ branch_packets sample false one_target first_branch)
    (knowing_open (knowing (codes "5082" ∷ [])) 5 62000 (one_target ∷ []))

abbrev pub ringing_came : Link
ringing_came =
    sending invite_came.after (saying 63000 5082 (ringing_from 1)) 63000
    (answer_to false one_target (text_of (without_top_via (ringing_from 1))) ∷ [])
    (knowing_open (knowing (codes "5082" ∷ [])) 6 63000 (one_rings ∷ []))

-- ---- ACKs

-- a 486 of the one target of an INVITE
abbrev pub busy : Message
busy = answer_with 1 486 (codes "Busy Here") []

-- an INVITE whose first target was busy, and whose second has not answered
abbrev pub busy_branch : Branch
busy_branch = record (branch_at 1 5082 (Done 95000 486)) { final_to = Some (codes "<sip:help@host.com>;tag=t1") }

abbrev pub one_busy : OpenRequest
one_busy = call_to (busy_branch ∷ second_branch ∷ [])

-- the 486 comes again, and its ACK goes as if for the first time
abbrev pub acknowledged_twice : ProxyState → ProxyState → Link
acknowledged_twice known after =
    sending (knowing_open known 6 63000 (one_busy ∷ [])) (saying 63500 5082 busy) 63500
    (ack_packets sample false one_busy busy_branch busy_branch.final_to) after

-- a 481 to the CANCEL of an INVITE's one target
abbrev pub cancel_refused : Message
cancel_refused =
    record {
      start = Status 481 (codes "Call/Transaction Does Not Exist");
      fields =
          record { name = Name.Via; value = branch_via 1 }
          ∷ record { name = Name.From; value = codes "<sip:x@away.net>;tag=f1" }
          ∷ record { name = Name.To; value = codes "<sip:help@host.com>;tag=t1" }
          ∷ record { name = Name.CallId; value = codes "k1" }
          ∷ record { name = Name.CSeq; value = codes "7 CANCEL" }
          ∷ [];
      body = [];
    }

-- the CANCEL of that target
abbrev pub cancel_there : Branch
cancel_there = cancel_at 1 5082 (Unheard 95000)

-- the 481 gets an ACK
abbrev pub acknowledged_cancel : ProxyState → ProxyState → Link
acknowledged_cancel known after =
    sending (knowing_open known 6 63000 (cancelled_target 95000 ∷ [])) (saying 63500 5082 cancel_refused) 63500
    (ack_packets sample false (cancelled_target 95000) cancel_there (Some (codes "<sip:help@host.com>;tag=t1"))) after
