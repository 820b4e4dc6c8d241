-- What a step that leaves this does of the datagram's effect.
use Rattle.std.proofs.Common.{◌≡◌, ◌∙◌, ℕ, Bool, true, false, not, ◌&&◌, cond, List, [], ◌∷◌, Option, Result, Some, None, Ok, Err, IfOk, slice_get, bytes_eq, codes, refl}
use Rattle.std.proofs.Common.{sym, ap, subst}
use Rattle.std.specs.declared.alloc.AllocError.{AllocError}
use Rattle.sip_event.specs.declared.event.StepOut.{StepOut}
use Rattle.sip_event.specs.declared.packet.Packet.{Packet}
use Rattle.sip_proxy.specs.verdict.Verdict.{IsRequestOf}
use Rattle.sip_proxy.specs.verdict.context_model.Branches.{Change, acknowledged, responded}
use Rattle.sip_proxy.specs.verdict.context_model.Sending.{answer_to}
use Rattle.sip_proxy.specs.declared.drafting.EventDraft.{EventDraft}
use Rattle.sip_dialog.specs.declared.dialog.Dialog.{Dialog}
use Rattle.sip_proxy.specs.fork.Places.{branch_at}
use Rattle.sip_message_form.specs.declared.message.Message.{Message}
use Rattle.sip_message_form.specs.declared.message.Start.{Start}
use Rattle.sip_message_form.specs.declared.message.Start.TheVariants.{Request, Status}
use Rattle.sip_hops.specs.declared.host_address.HostAddress.{HostAddress}
use Rattle.sip_dialog_updates.specs.DialogUpdates.{after_updates}
use Rattle.sip_dialog_updates.specs.declared.dialog_update.DialogUpdate.{DialogUpdate}
use Rattle.sip_proxy.specs.steps_model.Effect.{Effect, changed, copied, counted, effect_of, method_of, nothing, replaced}
use Rattle.sip_proxy.specs.steps_model.Step.{Does, originals, retransmissions}
use Rattle.sip_proxy.specs.forwarding.Arrivals.{arrival_of}
use Rattle.sip_proxy.specs.forwarding.declared.arrival.Arrival.{Arrival}
use Rattle.sip_proxy.specs.verdict.context_model.Retransmission.{acked_again, answers_again, is_lasting}
use Rattle.sip_dialog_updates.specs.state.SameState.{SameState}
use Rattle.sip_dialog_updates.specs.state.State.{is_invite, is_success}
use Rattle.sip_dialog_updates.specs.state.declared.branch.Branch.{Branch}
use Rattle.sip_dialog_updates.specs.state.declared.open_request.LastAnswer.{LastAnswer}
use Rattle.sip_dialog_updates.specs.state.declared.open_request.OpenRequest.{OpenRequest}
use Rattle.sip_dialog_updates.specs.state.declared.proxy_state.ProxyState.{ProxyState}
use Rattle.sip_dialog_updates.specs.state.declared.server.Server.{Server}
use Rattle.sip_proxy.specs.verdict.verdict_model.Verdict.{Respond}
use Rattle.sip_engine_request.specs.OpenSteps.{IsDraftOf, Leaves, left_by}

-- ---- what is sent

none_original : (r : OpenRequest) (o : Option LastAnswer) → originals (answers_again r o) ≡ []
none_original r None = refl
none_original r (Some a) = by_test (is_lasting r.side && not (is_invite r && is_success a.status)) where
  by_test : (t : Bool) → originals (cond t (answer_to true r a.text ∷ []) []) ≡ []
  by_test true = refl
  by_test false = refl

all_again : (r : OpenRequest) (o : Option LastAnswer) → retransmissions (answers_again r o) ≡ answers_again r o
all_again r None = refl
all_again r (Some a) = by_test (is_lasting r.side && not (is_invite r && is_success a.status)) where
  by_test : (t : Bool) → retransmissions (cond t (answer_to true r a.text ∷ []) []) ≡ cond t (answer_to true r a.text ∷ []) []
  by_test true = refl
  by_test false = refl

-- the method of a request
pub method_is : (method : List ℕ) (start : Start) → IsRequestOf method start → method_of start ≡ method
method_is method (Request name uri version) is = is
method_is method (Status code reason) is = absurd is

pub tested : (method : List ℕ) (start : Start) (t : Bool) → IsRequestOf method start → t ≡ bytes_eq method (codes "ACK") → bytes_eq (method_of start) (codes "ACK") ≡ t
tested method start t is e = ap (λ (name : List ℕ). bytes_eq name (codes "ACK")) (method_is method start is) ∙ sym e

module _ (server : Server) (a : Arrival) (old new : ProxyState) where
  -- ---- nothing

  pub nothing_done : (packets : List Packet) (out : StepOut) → packets ≡ [] → Leaves a packets old.requests old.dialogs old out new
      → Does server old a.now (nothing (counted (arrival_of a) old)) out new
  nothing_done packets out none l =
      record {
        at_moment = l.at_moment;
        sends = ap originals (l.packets_are ∙ none);
        repeats = ap retransmissions (l.packets_are ∙ none);
        records = l.records_are;
        leaves = l.leaves;
      }

  -- ---- a change

  -- what a draft leaves that is made
  abbrev pub LeavesDraft : EventDraft → StepOut → Type 0
  LeavesDraft draft out = Leaves a draft.drafted.packets (replaced draft.change old.requests) (after_updates a.now draft.drafted.updates old.dialogs) old out new

  change_done : (rows : List HostAddress) (r : OpenRequest) (change : Change) (copies : List Packet) (draft : EventDraft) (out : StepOut) → rows ≡ server.config.addresses
      → IsDraftOf rows server a.now r change copies draft → LeavesDraft draft out
      → Does server old a.now (record (changed server a.now (counted (arrival_of a) old) change) { again = copies }) out new
  change_done rows r change copies draft out known d l =
      record {
        at_moment = l.at_moment;
        sends = ap originals l.packets_are ∙ d.sent.originals;
        repeats = ap retransmissions l.packets_are ∙ d.sent.again;
        records = l.records_are;
        leaves =
            subst (λ (ds : List Dialog). SameState new (left_by a (replaced change.request old.requests) ds old)) (d.updates (sym known) old.dialogs)
            (subst (λ (x : OpenRequest). SameState new (left_by a (replaced x old.requests) (after_updates a.now draft.drafted.updates old.dialogs) old)) d.request
            l.leaves);
      }

  pub response_done : (rows : List HostAddress) (place branch status : ℕ) (m : Message) (draft : EventDraft) (result : Result StepOut AllocError)
      → rows ≡ server.config.addresses
      → ((found : OpenRequest × Branch) → branch_at old.requests (place, branch) ≡ Some found
      → IsDraftOf rows server a.now found.0 (responded server a.now found.0 found.1 status m) (acked_again server found.0 found.1 status) draft)
      → IfOk result (LeavesDraft draft)
      → IfOk result (λ out. (found : OpenRequest × Branch) → branch_at old.requests (place, branch) ≡ Some found
      → Does server old a.now (effect_of server (arrival_of a) m (Respond found.0 found.1 status) (counted (arrival_of a) old)) out new)
  response_done rows place branch status m draft (Ok out) known drafted l = λ found at.
      change_done rows found.0 (responded server a.now found.0 found.1 status m) (acked_again server found.0 found.1 status) draft out known (drafted found at) l
  response_done rows place branch status m draft (Err e) known drafted l = tt

  -- ---- a copy

  -- what a copy does, by whether it is an ACK
  abbrev pub copied_by : OpenRequest → Bool → Effect
  copied_by r t =
      record {
        originals = [];
        again = cond t [] (answers_again r r.answer);
        records = [];
        state = cond t (record (counted (arrival_of a) old) { requests = replaced (acknowledged a.now r) old.requests }) (counted (arrival_of a) old);
      }

  ack_done : (m : Message) (r : OpenRequest) (draft : EventDraft) (out : StepOut) → bytes_eq (method_of m.start) (codes "ACK") ≡ true
      → draft.change ≡ acknowledged a.now r
      → draft.drafted.packets ≡ [] → draft.drafted.updates ≡ [] → LeavesDraft draft out
      → Does server old a.now (copied (arrival_of a) m r (counted (arrival_of a) old)) out new
  ack_done m r draft out is becomes sends tells l =
      let done : Does server old a.now (copied_by r true) out new =
      record {
        at_moment = l.at_moment;
        sends = ap originals (l.packets_are ∙ sends);
        repeats = ap retransmissions (l.packets_are ∙ sends);
        records = l.records_are;
        leaves =
            subst (λ (ls : List DialogUpdate). SameState new (left_by a (replaced (acknowledged a.now r) old.requests) (after_updates a.now ls old.dialogs) old)) tells
            (subst (λ (x : OpenRequest). SameState new (left_by a (replaced x old.requests) (after_updates a.now draft.drafted.updates old.dialogs) old)) becomes
            l.leaves);
      } in
      subst (λ (t : Bool). Does server old a.now (copied_by r t) out new) (sym is) done

  pub again_done : (m : Message) (x r : OpenRequest) (packets : List Packet) (out : StepOut) → bytes_eq (method_of m.start) (codes "ACK") ≡ false → x ≡ r
      → packets ≡ answers_again x x.answer
      → Leaves a packets old.requests old.dialogs old out new → Does server old a.now (copied (arrival_of a) m r (counted (arrival_of a) old)) out new
  again_done m x r packets out is same sends l =
      let sent : out.packets ≡ answers_again r r.answer = l.packets_are ∙ sends ∙ ap (λ (v : OpenRequest). answers_again v v.answer) same in
      let done : Does server old a.now (copied_by r false) out new =
      record {
        at_moment = l.at_moment;
        sends = ap originals sent ∙ none_original r r.answer;
        repeats = ap retransmissions sent ∙ all_again r r.answer;
        records = l.records_are;
        leaves = l.leaves;
      } in
      subst (λ (t : Bool). Does server old a.now (copied_by r t) out new) (sym is) done

-- ---- a copy, whatever the server

module _ (a : Arrival) (old new : ProxyState) where
  pub acknowledged_done : (place : ℕ) (draft : EventDraft) (result : Result StepOut AllocError)
      → ((r : OpenRequest) → slice_get old.requests place ≡ Some r → draft.change ≡ acknowledged a.now r)
      → draft.drafted.packets ≡ [] → draft.drafted.updates ≡ []
      → IfOk result (λ out. Leaves a draft.drafted.packets (replaced draft.change old.requests) (after_updates a.now draft.drafted.updates old.dialogs) old out new)
      → IfOk result (λ out. (server : Server) (m : Message) (r : OpenRequest) → bytes_eq (method_of m.start) (codes "ACK") ≡ true → slice_get old.requests place ≡ Some r
      → Does server old a.now (copied (arrival_of a) m r (counted (arrival_of a) old)) out new)
  acknowledged_done place draft (Ok out) becomes sends tells l = λ server m r is at. ack_done server a old new m r draft out is (becomes r at) sends tells l
  acknowledged_done place draft (Err e) becomes sends tells l = tt

  -- of a request of this method, by whether that is ACK
  pub copy_done : (server : Server) (method : List ℕ) (m : Message) (place : ℕ) (t : Bool) (result : Result StepOut AllocError) → IsRequestOf method m.start
      → t ≡ bytes_eq method (codes "ACK")
      → IfOk result (λ out. (s : Server) (x : Message) (r : OpenRequest) → bytes_eq (method_of x.start) (codes "ACK") ≡ t → slice_get old.requests place ≡ Some r
      → Does s old a.now (copied (arrival_of a) x r (counted (arrival_of a) old)) out new)
      → IfOk result (λ out. (r : OpenRequest) → slice_get old.requests place ≡ Some r
      → Does server old a.now (copied (arrival_of a) m r (counted (arrival_of a) old)) out new)
  copy_done server method m place t (Ok out) is e h = λ r at. h server m r (tested method m.start t is e) at
  copy_done server method m place t (Err err) is e h = tt
