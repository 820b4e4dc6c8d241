-- Requests that are open, each sent to one target at the moment 0, and what happens to them, for the worked examples.
use Rattle.std.specs.Prelude.{ℕ, zero, suc, false, not, List, [], ◌∷◌, ◌++◌, map, find, codes, Option, Some, None}
use Rattle.std.specs.Option.{option_map_or, option_to_list}
use Rattle.sip_message_fields.specs.declared.field_name.FieldName.TheVariants as Name
use Rattle.sip_message_form.specs.declared.message.Start.TheVariants.{Status}
use Rattle.sip_message_form.specs.declared.message.Message.{Message}
use Rattle.sip_hops.specs.Examples as Places
use Rattle.sip_state.specs.edits.OnwardExamples as Onward
use Rattle.sip_state.specs.config_types.Sample as Settings
use Rattle.sip_event.specs.declared.packet.Packet.{Packet}
use Rattle.sip_state.specs.declared.server.Server.{Server}
use Rattle.sip_state.specs.declared.branch.Branch.{Branch}
use Rattle.sip_state.specs.declared.open_request.OpenRequest.{OpenRequest}
use Rattle.sip_state.specs.declared.branch.Phase.TheVariants.{Unheard}
use Rattle.sip_state.specs.declared.open_request.Side.TheVariants.{Answering}
use Rattle.sip_state.specs.State.{first_resend}
use Rattle.model_context.specs.Sending.{made_answer}
use Rattle.model_context.specs.Branches.{responded, overdue, cancelled, answered}
use Rattle.model_context.specs.Retransmission.{answers_again, acked_again, branch_due, answer_due, answer_next, with_resend}

-- ---- open requests

-- a server of the sample configuration, started with the word 0
abbrev pub sample : Server
sample = record { config = Settings.sample; word = 0 }

-- the branch to its one target, to which nothing was answered
abbrev pub first_branch : Branch
first_branch = record {
  number = 1;
  is_cancel = false;
  uri = codes "sip:help@127.0.0.1:5082";
  address = Some (Places.local 5082);
  wants_cancel = false;
  phase = Unheard 32000;
  final_to = None;
  again = first_resend 0;
}

-- a request with this method
abbrev pub sent : Message → List ℕ → OpenRequest
sent m method = record {
  key = record { branch = codes "z9hG4bKinv1"; host = codes "pc.host.com"; port = 5070; method = method };
  request = record { message = m; source = Places.local 5070 };
  number = 4;
  arrived_at = 0;
  answer = None;
  side = Answering;
  again = first_resend 0;
  finals = [];
  branches = first_branch ∷ [];
}

-- an INVITE
abbrev pub call : OpenRequest
call = sent Onward.invite (codes "INVITE")

-- a MESSAGE
abbrev pub note : OpenRequest
note = sent Onward.text_message (codes "MESSAGE")

-- ---- what happens to them

-- the branch to the target
abbrev pub target_in : OpenRequest → Option Branch
target_in r = find (λ (b : Branch). not b.is_cancel) r.branches

-- its CANCEL, once it was sent one
abbrev pub cancel_in : OpenRequest → Option Branch
cancel_in r = find (λ (b : Branch). b.is_cancel) r.branches

-- a response of the target with a status
abbrev pub response : ℕ → Message
response status = record {
  start = Status status (codes "Any");
  fields = record { name = Name.Via; value = codes "SIP/2.0/UDP sip.host.com:5060;branch=z9hG4bK" }
      ∷ record { name = Name.Via; value = codes "SIP/2.0/UDP pc.host.com:5070;branch=z9hG4bKinv1;rport=5070;received=127.0.0.1" }
      ∷ record { name = Name.From; value = codes "<sip:x@away.net>;tag=f1" }
      ∷ record { name = Name.To; value = codes "<sip:help@host.com>;tag=t1" }
      ∷ record { name = Name.CallId; value = codes "k1" }
      ∷ record { name = Name.CSeq; value = codes "7 INVITE" }
      ∷ [];
  body = [];
}

-- a response with this status comes at a moment to the branch to the target, or to the CANCEL
abbrev pub hearing : (OpenRequest → Option Branch) → ℕ → ℕ → OpenRequest → OpenRequest
hearing pick now status r = option_map_or (λ (b : Branch). (responded sample now r b status (response status)).request) (pick r) r

-- the caller's CANCEL comes
abbrev pub cancelling : ℕ → OpenRequest → OpenRequest
cancelling now r = (cancelled sample now r).request

-- the deadline of the target passes
abbrev pub timing_out : ℕ → OpenRequest → OpenRequest
timing_out now r = option_map_or (λ (b : Branch). (overdue sample now r b).request) (target_in r) r

-- the 100 goes to the caller
abbrev pub trying : OpenRequest → OpenRequest
trying r = answered 0 (record { status = 100; message = made_answer sample r.number r.request.message r.request.source 100 []; target = None }) r

-- what a branch sends went again
abbrev pub repeating : (OpenRequest → Option Branch) → OpenRequest → OpenRequest
repeating pick r = option_map_or (λ (b : Branch). with_resend b r) (pick r) r

-- ---- what goes again

-- the next moments at which what a branch sends goes again, if nothing else happens
abbrev pub branch_moments : ℕ → (OpenRequest → Option Branch) → OpenRequest → List ℕ
branch_moments zero pick r = []
branch_moments (suc count) pick r = option_map_or (λ (b : Branch). option_to_list (branch_due r b)) (pick r) []
    ++ branch_moments count pick (repeating pick r)

-- the next moments at which the last answer goes again
abbrev pub answer_moments : ℕ → OpenRequest → List ℕ
answer_moments zero r = []
answer_moments (suc count) r = option_to_list (answer_due r) ++ answer_moments count (record r { again = answer_next r })

-- the answers that a copy of a request gets
abbrev pub copied_answers : OpenRequest → List (List ℕ)
copied_answers r = map (λ (p : Packet). p.bytes) (answers_again r r.answer)

-- the last answer
abbrev pub last_answers : OpenRequest → List (List ℕ)
last_answers r = option_map_or (λ a. a.text ∷ []) r.answer []

-- the ACKs of the call's first final answer
abbrev pub first_acks : ℕ → List (List ℕ)
first_acks status = map (λ (p : Packet). p.bytes) (responded sample 1000 call first_branch status (response status)).acks

-- the ACKs that a further final answer gets
abbrev pub further_acks : ℕ → ℕ → List (List ℕ)
further_acks first status =
    let r : OpenRequest = hearing target_in 1000 first call in
    option_map_or (λ (b : Branch). map (λ (p : Packet). p.bytes) (acked_again sample r b status)) (target_in r) []
