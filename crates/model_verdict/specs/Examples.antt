-- What comes to a server of the sample configuration, and what it knows then, for the worked examples. Moments are in milliseconds.
use Rattle.std.specs.Prelude.{ℕ, zero, suc, true, false, List, [], ◌∷◌, ◌++◌, codes, Option, None, Some}
use Rattle.sip_uri.specs.declared.addr.Addr.{Addr}
use Rattle.sip_message_fields.specs.declared.field_name.FieldName.TheVariants as Name
use Rattle.sip_message_form.specs.declared.message.Start.TheVariants.{Request, Status}
use Rattle.sip_message_form.specs.declared.message.Message.{Message}
use Rattle.sip_header.specs.FieldExamples.{fields_of}
use Rattle.sip_hops.specs.Examples.{local}
use Rattle.model_context.specs.edit.OwnVia.{branch_text}
use Rattle.sip_policy.specs.declared.who.Who.{Who}
use Rattle.sip_policy.specs.declared.operation.Operation.{Operation}
use Rattle.sip_policy.specs.declared.operation.OperationPattern.TheVariants as Pattern
use Rattle.sip_policy.specs.declared.target_pattern.TargetPattern.TheVariants as Target
use Rattle.sip_policy.specs.declared.rule_verdict.RuleVerdict.{RuleVerdict}
use Rattle.sip_policy.specs.declared.rule.Rule.{Rule}
use Rattle.sip_policy.specs.Examples as Policy
use Rattle.model_context.specs.config_types.Sample as Settings
use Rattle.sip_auth.specs.Proof.{Wrong}
use Rattle.sip_auth.specs.Examples.{credential, used_often}
use Rattle.sip_dialog.specs.declared.dialog.Dialog.{Dialog}
use Rattle.sip_dialog.specs.Examples as Dialogs
use Rattle.sip_targets.specs.Examples.{help_contact}
use Rattle.model_context.specs.state.declared.server.Server.{Server}
use Rattle.model_context.specs.state.declared.branch.Branch.{Branch}
use Rattle.model_context.specs.state.declared.branch.Phase.TheVariants.{Unheard, Cancelled}
use Rattle.model_context.specs.state.declared.open_request.Side.TheVariants.{Closing}
use Rattle.model_context.specs.state.declared.open_request.OpenRequest.{OpenRequest}
use Rattle.model_context.specs.state.declared.proxy_state.ProxyState.{ProxyState}
use Rattle.model_context.specs.state.State.{first_state}
use Rattle.model_context.specs.Calls as Calls
use Rattle.model_context.specs.state.Arrival.{Arrival}
use Rattle.model_verdict.specs.declared.question.Question.{Question}
use Rattle.model_verdict.specs.Verdict.{Registered, Bound, Refused, Verdict, Register, message_verdict}

-- ---- what the server knows

-- it knows open requests and dialogs, before the fifth datagram
abbrev pub knowing : List OpenRequest → List Dialog → ProxyState
knowing requests dialogs = record (first_state 5) { requests = requests; dialogs = dialogs }

-- the dialog of a call from port 5070 to port 5082, which holds addresses
abbrev pub call_holding : List Addr → Dialog
call_holding addresses = record {
  id = Dialogs.call_of (codes "f1") (codes "t1");
  number = 4;
  has_success = true;
  since = 62000;
  addresses = addresses;
}

-- the dialog that holds these two
abbrev pub call : Dialog
call = call_holding (local 5070 ∷ local 5082 ∷ [])

-- a request so many times
abbrev pub times : ℕ → OpenRequest → List OpenRequest
times zero r = []
times (suc n) r = r ∷ times n r

-- an INVITE to two targets, with the CANCEL of the second behind
abbrev pub second_target : Branch
second_target = Calls.marked_at 2 5083 (Cancelled 95000)

abbrev pub second_cancel : Branch
second_cancel = Calls.cancel_at 2 5083 (Unheard 95000)

abbrev pub forked : OpenRequest
forked = Calls.call_to (Calls.first_branch ∷ second_target ∷ second_cancel ∷ [])

-- an INVITE to one target that was answered 486, or 200
abbrev pub refused : OpenRequest
refused = Calls.replied_with 486 (Closing 95000) Calls.one_target

abbrev pub accepted : OpenRequest
accepted = Calls.replied_with 200 (Closing 95000) Calls.one_target

-- a MESSAGE with the branch and sent-by of that INVITE
abbrev pub message_of_branch : OpenRequest
message_of_branch =
    let m : OpenRequest = Calls.message_to [] in
    record m { key = record m.key { branch = codes "z9hG4bKinv1" } }

-- it knows the INVITE to two targets, the INVITE to one, or the call
abbrev pub in_fork : ProxyState
in_fork = knowing (forked ∷ []) []

abbrev pub in_invite : ProxyState
in_invite = knowing (Calls.one_target ∷ []) []

abbrev pub in_call : ProxyState
in_call = knowing [] (call ∷ [])

-- it knows one binding of help's, until a moment
abbrev pub bound_until : ℕ → ProxyState
bound_until expires_at =
    record (knowing [] []) {
      bindings = record {
        aor = Policy.user_at (codes "help") (codes "host.com");
        uri = help_contact;
        call_id = codes "h1";
        cseq = 1;
        expires_at = expires_at;
      } ∷ [];
    }

-- ---- what comes

-- the fifth datagram, at 64,000
abbrev pub arriving_from : Addr → Arrival
arriving_from from = record { number = 5; now = 64000; word = 5; from = from }

-- the verdict on a message from an address, whose body came whole
abbrev pub verdict_from : Addr → ProxyState → Message → Verdict
verdict_from from state m = message_verdict Calls.sample state (arriving_from from) m false

-- the same from 127.0.0.1:5070
abbrev pub verdict_on : ProxyState → Message → Verdict
verdict_on state m = verdict_from (local 5070) state m

-- the Via of the caller's INVITE
abbrev pub invite_via : List ℕ
invite_via = codes "SIP/2.0/UDP pc.host.com:5070;branch=z9hG4bKinv1;rport"

-- the Via of a branch of the INVITE
abbrev pub own_via : ℕ → List ℕ
own_via target = codes "SIP/2.0/UDP sip.host.com:5060;branch=" ++ branch_text 0 4 target

-- that Via on top of the caller's
abbrev pub both_vias : ℕ → List (List ℕ)
both_vias target = own_via target ∷ invite_via ∷ []

-- a response of 180 with these Vias and CSeqs
abbrev pub response_with : List (List ℕ) → List (List ℕ) → Message
response_with vias cseqs =
    record {
      start = Status 180 (codes "Ringing");
      fields =
          fields_of Name.Via vias
          ++ record { name = Name.From; value = codes "<sip:x@away.net>;tag=f1" }
          ∷ record { name = Name.To; value = codes "<sip:help@host.com>;tag=t1" }
          ∷ record { name = Name.CallId; value = codes "k1" }
          ∷ fields_of Name.CSeq cseqs;
      body = [];
    }

-- a request of the call with a Via, a To and Routes
abbrev pub request_with : List ℕ → List ℕ → List ℕ → List ℕ → List (List ℕ) → Message
request_with method uri via to routes =
    record {
      start = Request method uri (codes "SIP/2.0");
      fields =
          record { name = Name.Via; value = via }
          ∷ fields_of Name.Route routes
          ++ record { name = Name.MaxForwards; value = codes "70" }
          ∷ record { name = Name.From; value = codes "<sip:x@away.net>;tag=f1" }
          ∷ record { name = Name.To; value = to }
          ∷ record { name = Name.CallId; value = codes "k1" }
          ∷ record { name = Name.CSeq; value = codes "7 " ++ method }
          ∷ [];
      body = [];
    }

-- the CANCEL of the INVITE, with this Via
abbrev pub cancel_with : List ℕ → Message
cancel_with via = request_with (codes "CANCEL") (codes "sip:help@host.com") via (codes "<sip:help@host.com>") []

-- help's contact, and To with the tag of its answer
abbrev pub contact : List ℕ
contact = codes "sip:help@127.0.0.1:5082"

abbrev pub tagged : List ℕ
tagged = codes "<sip:help@host.com>;tag=t1"

-- a BYE with a To and Routes
abbrev pub bye : List ℕ → List (List ℕ) → Message
bye to routes = request_with (codes "BYE") contact (codes "SIP/2.0/UDP pc.host.com:5070;branch=z9hG4bKbye1;rport") to routes

-- this server's Record-Route, as a Route
abbrev pub own_route : List ℕ
own_route = codes "<sip:sip.host.com:5060;lr>"

-- the ACK of an answer with the tag t1 that has the key of the INVITE
abbrev pub ack : Message
ack = request_with (codes "ACK") contact invite_via tagged []

-- ---- a REGISTER of a proven user

-- proven, register, any user of host.com: allow
abbrev pub any_registration : Rule
any_registration = Policy.rule_of 7 Who.Proven Pattern.Register (Target.Prefix [] (codes "host.com")) RuleVerdict.Allow

-- the sample with that rule behind the others
abbrev pub lenient : Server
lenient = record { config = record Settings.sample { rules = Policy.sample_rules ++ any_registration ∷ [] }; word = 0 }

-- Mufasa registers a contact for To, with a right credential
abbrev pub registering : List ℕ → List ℕ → Message
registering uri to =
    record {
      start = Request (codes "REGISTER") uri (codes "SIP/2.0");
      fields =
          record { name = Name.Via; value = codes "SIP/2.0/UDP 127.0.0.1:5062;branch=z9hG4bKreg2" }
          ∷ record { name = Name.MaxForwards; value = codes "70" }
          ∷ record { name = Name.From; value = codes "<sip:Mufasa@host.com>;tag=a1" }
          ∷ record { name = Name.To; value = to }
          ∷ record { name = Name.CallId; value = codes "c1@127.0.0.1" }
          ∷ record { name = Name.CSeq; value = codes "2 REGISTER" }
          ∷ record { name = Name.Contact; value = codes "<sip:Mufasa@127.0.0.1:5062>" }
          ∷ record { name = Name.Authorization; value = credential (codes "Mufasa") Policy.mufasas_a1 (codes "REGISTER") uri (codes "00000001") }
          ∷ [];
      body = [];
    }

-- the verdict on it at 2,000, when the nonce of the first challenge lives
abbrev pub registration : List ℕ → List ℕ → Verdict
registration uri to =
    message_verdict lenient (record (first_state 2) { nonces = used_often 0 })
    (record { number = 2; now = 2000; word = 2; from = local 5062 }) (registering uri to) false

-- the status that it comes to
abbrev pub registered_as : Registered → ℕ
registered_as (Bound rows) = 200
registered_as (Refused status extras) = status

-- the rule that lets a REGISTER through, and the status that it comes to
abbrev pub registers : Verdict → Option (ℕ × ℕ)
registers (Register q id outcome) = Some (id, registered_as outcome)
registers other = None

-- ---- what policy is asked

-- nobody proves to register for Mufasa, or to call help, a minute after midnight
abbrev pub unproven_register : Question
unproven_register = record { proof = Wrong; operation = Operation.Register; target = Policy.user_at (codes "Mufasa") (codes "host.com"); minute = 1 }

abbrev pub unproven_call : Question
unproven_call = record {
  proof = Wrong;
  operation = Operation.Send (codes "INVITE");
  target = Policy.user_at (codes "help") (codes "host.com");
  minute = 1;
}
