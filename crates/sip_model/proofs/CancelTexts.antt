-- What is no CANCEL of this server: answers and ACKs, by how they begin, and requests to targets, by their tickets.
use Rattle.std.proofs.Common.{◌≡◌, ℕ, ◌≤◌, Bool, true, false, not, ◌&&◌, cond, List, [], ◌∷◌, ◌++◌, Option, Some, None, refl, ap, arith, count_by, codes, decimal, length}
use Rattle.std.proofs.Common.{map}
use Rattle.std.specs.Option.{option_map_or}
use Rattle.std.specs.List.{AllByRecursion, flat_map}
use Rattle.sip_uri.specs.declared.addr.Addr.{Addr}
use Rattle.sip_message_form.specs.declared.message.Start.{Start}
use Rattle.sip_message_form.specs.declared.message.Message.{Message}
use Rattle.sip_message_form.specs.Text.{start_text, field_text, text_of}
use Rattle.sip_edit.specs.Onward.{with_record_route}
use Rattle.sip_edit.specs.OwnRequests.{ack_with, cancel_of}
use Rattle.sip_event.specs.declared.packet.Packet.{Packet}
use Rattle.model_steps.specs.state.declared.server.Server.{Server}
use Rattle.model_steps.specs.state.declared.branch.Phase.{Phase}
use Rattle.model_steps.specs.state.declared.branch.Phase.TheVariants.{Unheard, Heard, Cancelled, Done, Ended}
use Rattle.model_steps.specs.state.declared.branch.Branch.{Branch}
use Rattle.model_steps.specs.state.declared.open_request.LastAnswer.{LastAnswer}
use Rattle.model_steps.specs.state.declared.open_request.OpenRequest.{OpenRequest}
use Rattle.model_steps.specs.state.declared.open_request.Upward.{Upward}
use Rattle.model_steps.specs.state.State.{is_invite, is_success, is_failure}
use Rattle.model_steps.specs.context_model.Sending.{begins_dialog, onward_as, request_of, sent_of, to_branch, branch_packets, ack_packets, answer_to}
use Rattle.model_steps.specs.context_model.Branches.{cancel_branch, after_upward, upward_list, last_answer}
use Rattle.model_steps.specs.context_model.Retransmission.{answers_again, acks_again, acked_again, is_lasting}
use Rattle.sip_model.specs.Cancels.{begins_cancel, IsOwnCancel}
use Rattle.sip_model.proofs.FinalsText.{HasStatus}
use Rattle.sip_model.proofs.FinalsKept.{IsHonest}
use Rattle.sip_model.proofs.SendingLists.{count_joined}
use Rattle.sip_model.proofs.CancelBranches.{Asks}
use Rattle.sip_model.proofs.Places.{count_cons, none_at}

-- a test of packets: it is the same of a first sending and of a copy, and only CANCELs of this server pass it
pub record IsTest (test : Packet → Bool) : Type 0 where
  pub either : (p : Packet) (again : Bool) → test (record p { again = again }) ≡ test p
  pub begins : (p : Packet) → test p ≡ true → begins_cancel p.bytes ≡ true
  pub no_branch : (p : Packet) → test p ≡ true → p.ticket.branch ≡ 0

-- what doesn't begin as a CANCEL doesn't pass
pub fails_text : (test : Packet → Bool) → IsTest test → (p : Packet) → begins_cancel p.bytes ≡ false → test p ≡ false
fails_text test is p other = by_test (test p) refl where
  by_test : (t : Bool) → test p ≡ t → test p ≡ false
  by_test true e = let never = is.begins p e in absurd (cc)
  by_test false e = e

-- nor what is for a branch
pub fails_branch : (test : Packet → Bool) → IsTest test → (p : Packet) → 1 ≤ p.ticket.branch → test p ≡ false
fails_branch test is p high = by_test (test p) refl where
  by_test : (t : Bool) → test p ≡ t → test p ≡ false
  by_test true e = let none = is.no_branch p e in absurd (omega (arith, none, high))
  by_test false e = e

-- one packet that doesn't pass
pub one_fails : (test : Packet → Bool) (p : Packet) → test p ≡ false → count_by test (p ∷ []) ≡ 0
one_fails test p e = omega (arith, count_cons test p [], none_at (test p) e)

-- ---- answers

-- an answer of a status
pub answer_begins : (status : ℕ) (m : Message) → HasStatus status m → begins_cancel (text_of m) ≡ false
answer_begins status m h =
    ap (λ (start : Start). begins_cancel (start_text start ++ codes "\r\n" ++ flat_map field_text m.fields ++ codes "Content-Length: " ++ decimal (length m.body)
    ++ codes "\r\n\r\n" ++ m.body)) h.start_is

-- the text of the last answer, which is kept for copies, is no CANCEL
abbrev pub IsNoCancel : Option LastAnswer → Type 0
IsNoCancel None = Unit {0}
IsNoCancel (Some a) = begins_cancel a.text ≡ false

-- once an answer went to the caller
answered_no : (r : OpenRequest) (u : Upward) → IsHonest u → begins_cancel (last_answer r u.status (text_of u.message)).text ≡ false
answered_no r u h = by_test (is_invite r && is_success u.status) where
  by_test : (t : Bool) → begins_cancel (cond t [] (text_of u.message)) ≡ false
  by_test true = refl
  by_test false = answer_begins u.status u.message h.is_of

pub upward_no : (now : ℕ) (o : Option Upward) (r : OpenRequest) → AllByRecursion IsHonest (upward_list o) → IsNoCancel r.answer → IsNoCancel (after_upward now o r).answer
upward_no now None r honest h = h
upward_no now (Some u) r honest h = answered_no r u honest.0

-- its copies
pub answers_none : (test : Packet → Bool) → IsTest test → (r : OpenRequest) (o : Option LastAnswer) → IsNoCancel o → count_by test (answers_again r o) ≡ 0
answers_none test is r None h = refl
answers_none test is r (Some a) h = by_test (is_lasting r.side && not (is_invite r && is_success a.status)) where
  by_test : (t : Bool) → count_by test (cond t (answer_to true r a.text ∷ []) []) ≡ 0
  by_test true = one_fails test (answer_to true r a.text) (fails_text test is (answer_to true r a.text) h)
  by_test false = refl

-- ---- ACKs

ack_none : (test : Packet → Bool) → IsTest test → (server : Server) (again : Bool) (r : OpenRequest) (b : Branch) (to : Option (List ℕ))
    → count_by test (ack_packets server again r b to) ≡ 0
ack_none test is server again r b to = by_address b.address (request_of server r b) where
  by_address : (o : Option Addr) (m : Message) → count_by test (to_branch r (record b { address = o }) 0 again (ack_with to m)) ≡ 0
  by_address None m = refl
  by_address (Some address) m =
      let p : Packet = record { to = address; bytes = text_of (ack_with to m); ticket = record { datagram = r.number; branch = 0 }; again = again } in
      one_fails test p (fails_text test is p refl)

-- that of a further final answer
pub acked_none : (test : Packet → Bool) → IsTest test → (server : Server) (r : OpenRequest) (b : Branch) (status : ℕ) → count_by test (acked_again server r b status) ≡ 0
acked_none test is server r b status = by_test (is_failure status) b.phase where
  by_phase : (phase : Phase) → count_by test (acks_again server r b phase) ≡ 0
  by_phase (Unheard due) = refl
  by_phase (Heard due) = refl
  by_phase (Cancelled due) = refl
  by_phase (Done due first) = by_kind (is_invite r && not b.is_cancel && is_failure first) where
    by_kind : (t : Bool) → count_by test (cond t (ack_packets server true r b b.final_to) []) ≡ 0
    by_kind true = ack_none test is server true r b b.final_to
    by_kind false = refl
  by_phase Ended = refl

  by_test : (t : Bool) (phase : Phase) → count_by test (cond t (acks_again server r b phase) []) ≡ 0
  by_test true phase = by_phase phase
  by_test false phase = refl

-- ---- requests to targets

pub target_none : (test : Packet → Bool) → IsTest test → (server : Server) (r : OpenRequest) (b : Branch) → b.is_cancel ≡ false → 1 ≤ b.number
    → count_by test (branch_packets server true r b) ≡ 0
target_none test is server r b target high = by_address b.address b.is_cancel target where
  by_address : (o : Option Addr) (t : Bool) → t ≡ false → count_by test (to_branch r (record b { address = o }) (cond t 0 b.number) true (sent_of server r b)) ≡ 0
  by_address None t e = refl
  by_address (Some address) true e = absurd (cc)
  by_address (Some address) false e =
      let p : Packet = record { to = address; bytes = text_of (sent_of server r b); ticket = record { datagram = r.number; branch = b.number }; again = true } in
      one_fails test p (fails_branch test is p high)

-- ---- CANCELs

-- whether the CANCEL of a branch of a request passes a test
abbrev pub asks : (Packet → Bool) → Server → OpenRequest → Asks
asks test server r number uri address =
    option_map_or (λ to. test (record {
      to = to;
      bytes = text_of
          (cancel_of (cond (begins_dialog r) (with_record_route server.config.own (onward_as server r.number r.request.message r.request.source uri number))
          (onward_as server r.number r.request.message r.request.source uri number)));
      ticket = record { datagram = r.number; branch = 0 };
      again = false;
    })) address false

-- a CANCEL that is sent for the first time
first_cancel : (test : Packet → Bool) (server : Server) (now : ℕ) (r : OpenRequest) (b : Branch)
    → count_by test (branch_packets server false r (cancel_branch now b)) ≡ cond {A = ℕ} (asks test server r b.number b.uri b.address) 1 0
first_cancel test server now r b = by_address b.address where
  by_address : (o : Option Addr) → count_by test (to_branch r (record b { address = o }) 0 false (cancel_of (request_of server r b)))
      ≡ cond {A = ℕ} (asks test server r b.number b.uri o) 1 0
  by_address None = refl
  by_address (Some to) =
      omega (
        arith,
        count_cons test (record {
          to = to;
          bytes = text_of (cancel_of (request_of server r b));
          ticket = record { datagram = r.number; branch = 0 };
          again = false;
        }) [],
      )

-- all that are
pub first_cancels : (test : Packet → Bool) (server : Server) (now : ℕ) (r : OpenRequest) (bs : List Branch)
    → count_by test (flat_map (branch_packets server false r) (map (cancel_branch now) bs)) ≡ count_by (λ (b : Branch). asks test server r b.number b.uri b.address) bs
first_cancels test server now r [] = refl
first_cancels test server now r (b ∷ bs) =
    omega (
      arith,
      count_joined test (branch_packets server false r (cancel_branch now b)) (flat_map (branch_packets server false r) (map (cancel_branch now) bs)),
      first_cancel test server now r b,
      count_cons (λ (x : Branch). asks test server r x.number x.uri x.address) b bs,
      first_cancels test server now r bs,
    )

-- a copy of one
pub cancel_copy : (test : Packet → Bool) → IsTest test → (server : Server) (r : OpenRequest) (b : Branch) → b.is_cancel ≡ true
    → count_by test (branch_packets server true r b) ≡ cond {A = ℕ} (asks test server r b.number b.uri b.address) 1 0
cancel_copy test is server r b cancel = by_address b.address b.is_cancel cancel where
  by_address : (o : Option Addr) (t : Bool) → t ≡ true
      → count_by test (to_branch r (record b { address = o }) (cond t 0 b.number) true (cond t (cancel_of (request_of server r b)) (request_of server r b)))
      ≡ cond {A = ℕ} (asks test server r b.number b.uri o) 1 0
  by_address None t e = refl
  by_address (Some to) false e = absurd (cc)
  by_address (Some to) true e =
      let p : Packet = record { to = to; bytes = text_of (cancel_of (request_of server r b)); ticket = record { datagram = r.number; branch = 0 }; again = false } in
      omega (arith, count_cons test (record p { again = true }) [], ap (λ (t : Bool). cond {A = ℕ} t 1 0) (is.either p true))

-- what a CANCEL sends is one of this server
pub cancel_own : (server : Server) (again : Bool) (r : OpenRequest) (b : Branch) → b.is_cancel ≡ true → AllByRecursion IsOwnCancel (branch_packets server again r b)
cancel_own server again r b cancel = by_address b.address b.is_cancel cancel where
  by_address : (o : Option Addr) (t : Bool) → t ≡ true
      → AllByRecursion IsOwnCancel (to_branch r (record b { address = o }) (cond t 0 b.number) again (cond t (cancel_of (request_of server r b)) (request_of server r b)))
  by_address None t e = tt
  by_address (Some to) true e = (record { no_branch = refl; begins = refl }, tt)
  by_address (Some to) false e = absurd (cc)
