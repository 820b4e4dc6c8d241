-- A change of an open request: the request after it follows the one before, and what it sends is no request to a target.
use Rattle.std.proofs.Common.{◌≡◌, ℕ, ◌+◌, ◌≤◌, Bool, true, false, not, ◌&&◌, ◌||◌, ◌==◌, cond, List, [], ◌∷◌, ◌++◌, map, filter, Option, Some, None, refl, arith}
use Rattle.std.proofs.Common.{count_by}
use Rattle.std.specs.List.{AllByRecursion, flat_map}
use Rattle.sip_message_fields.specs.declared.field_name.FieldName.TheVariants as Name
use Rattle.sip_message_fields.specs.Values.{first_value}
use Rattle.sip_message_form.specs.declared.message.Message.{Message}
use Rattle.sip_uri.specs.declared.addr.Addr.{Addr}
use Rattle.sip_event.specs.declared.packet.Packet.{Packet}
use Rattle.sip_best.specs.declared.final_answer.Final.{Final}
use Rattle.model_steps.specs.state.declared.server.Server.{Server}
use Rattle.model_steps.specs.state.declared.branch.Phase.{Phase}
use Rattle.model_steps.specs.state.declared.branch.Phase.TheVariants.{Unheard, Heard, Cancelled, Done, Ended}
use Rattle.model_steps.specs.state.declared.branch.Branch.{Branch}
use Rattle.model_steps.specs.state.declared.open_request.LastAnswer.{LastAnswer}
use Rattle.model_steps.specs.state.declared.open_request.OpenRequest.{OpenRequest}
use Rattle.model_steps.specs.state.declared.open_request.Side.TheVariants.{Closed}
use Rattle.model_steps.specs.state.declared.open_request.Upward.{Upward}
use Rattle.model_steps.specs.state.declared.proxy_state.ProxyState.{ProxyState}
use Rattle.model_steps.specs.state.State.{is_invite, is_final, is_success, is_failure, is_decline, is_provisional, is_answering}
use Rattle.model_steps.specs.context_model.Sending.{ack_packets, branch_packets, to_branch, request_of, sent_of, answer_to}
use Rattle.sip_edit.specs.OwnRequests.{ack_with}
use Rattle.model_steps.specs.context_model.Branches.{Change, is_same_branch, with_phase, with_final, marked, given_up, settled, after_upward, best_upward, upward_list}
use Rattle.model_steps.specs.context_model.Branches.{with_cancels, new_cancels, cancel_branch, is_cancellable, other_heard, heard, linger, final_of, told_to, acked_to}
use Rattle.model_steps.specs.context_model.Branches.{with_answer, acks_of, further, relayed_provisional, relayed_success, target_responded, cancel_responded, responded}
use Rattle.model_steps.specs.context_model.Branches.{target_overdue, branch_overdue, cancelled}
use Rattle.model_steps.specs.context_model.Retransmission.{acked_again, acks_again, answers_again, is_lasting}
use Rattle.model_steps.specs.Effect.{change_packets, upward_packets}
use Rattle.model_steps.specs.Step.{Act, IsOverdue, OfSide, OfBranch, is_failed}
use Rattle.sip_model.specs.Parts.{IsChangeAt, ByResponse, ByDeadline, ByFault, ByCancel}
use Rattle.sip_model.specs.Sendings.{is_sent_for}
use Rattle.sip_model.proofs.SendingLists.{all_joined, count_none, other_number}
use Rattle.sip_model.proofs.SendingBranches.{AreApart, heard_after, done_after, Succeeds, succeeds_alike, succeeds_both, phased_succeeds, wanting_succeeds}
use Rattle.sip_model.proofs.SendingBranches.{marked_succeeds, cancels_succeed, upward_succeeds}
use Rattle.sip_model.proofs.Places.{IsIn, all_weaker, found_in, in_from_contains}

-- ---- packets that are no request to a target

-- a packet whose ticket names no branch
abbrev pub IsOther : Packet → Type 0
IsOther p = p.ticket.branch ≡ 0

-- such packets aren't for a branch
pub none_sent : (number branch : ℕ) (ps : List Packet) → 1 ≤ branch → AllByRecursion IsOther ps → count_by (is_sent_for number branch) ps ≡ 0
none_sent number branch ps high all = count_none (is_sent_for number branch) ps (all_weaker IsOther (λ (p : Packet). is_sent_for number branch p ≡ false) ps fails
    all) where
      none : (t : Bool) → (t && false) ≡ false
      none true = refl
      none false = refl

      fails : (p : Packet) → IsOther p → is_sent_for number branch p ≡ false
      fails p other = rw (other_number p.ticket.branch branch (λ same. omega (arith, same, other, high))) (none (p.ticket.datagram == number))

-- a message with branch 0 on its ticket
message_other : (r : OpenRequest) (b : Branch) (again : Bool) (m : Message) → AllByRecursion IsOther (to_branch r b 0 again m)
message_other r b again m = by_address b.address where
  by_address : (o : Option Addr) → AllByRecursion IsOther (to_branch r (record b { address = o }) 0 again m)
  by_address None = tt
  by_address (Some address) = (refl, tt)

-- answers
pub upward_other : (r : OpenRequest) (us : List Upward) → AllByRecursion IsOther (upward_packets r us)
upward_other r [] = tt
upward_other r (u ∷ us) = (refl, upward_other r us)

-- CANCELs
cancels_other : (server : Server) (now : ℕ) (r : OpenRequest) (bs : List Branch) → AllByRecursion IsOther
    (flat_map (branch_packets server false r) (map (cancel_branch now) (filter is_cancellable bs)))
cancels_other server now r [] = tt
cancels_other server now r (b ∷ bs) = by_test (is_cancellable b) (cancels_other server now r bs) where
  by_test : (t : Bool) → AllByRecursion IsOther (flat_map (branch_packets server false r) (map (cancel_branch now) (filter is_cancellable bs)))
      → AllByRecursion IsOther (flat_map (branch_packets server false r) (map (cancel_branch now) (cond t (b ∷ filter is_cancellable bs) (filter is_cancellable bs))))
  by_test true rest =
      all_joined IsOther (branch_packets server false r (cancel_branch now b)) (flat_map (branch_packets server false r)
      (map (cancel_branch now) (filter is_cancellable bs)))
      (message_other r (cancel_branch now b) false (sent_of server r (cancel_branch now b))) rest
  by_test false rest = rest

-- ACKs, if any
either_other : (t : Bool) (ps : List Packet) → AllByRecursion IsOther ps → AllByRecursion IsOther (cond t ps [])
either_other true ps all = all
either_other false ps all = tt

acks_other : (server : Server) (r : OpenRequest) (b : Branch) (status : ℕ) (m : Message) → AllByRecursion IsOther (acks_of server r b status m)
acks_other server r b status m =
    either_other (is_invite r && is_failure status) (ack_packets server false r b (first_value Name.To m.fields))
    (message_other r b false (ack_with (first_value Name.To m.fields) (request_of server r b)))

-- the same again
phase_acks_other : (server : Server) (r : OpenRequest) (b : Branch) (phase : Phase) → AllByRecursion IsOther (acks_again server r b phase)
phase_acks_other server r b (Unheard due) = tt
phase_acks_other server r b (Heard due) = tt
phase_acks_other server r b (Cancelled due) = tt
phase_acks_other server r b (Done due status) =
    either_other (is_invite r && not b.is_cancel && is_failure status) (ack_packets server true r b b.final_to)
    (message_other r b true (ack_with b.final_to (request_of server r b)))
phase_acks_other server r b Ended = tt

acked_other : (server : Server) (r : OpenRequest) (b : Branch) (status : ℕ) → AllByRecursion IsOther (acked_again server r b status)
acked_other server r b status = either_other (is_failure status) (acks_again server r b b.phase) (phase_acks_other server r b b.phase)

-- the last answer again
pub answers_other : (r : OpenRequest) (o : Option LastAnswer) → AllByRecursion IsOther (answers_again r o)
answers_other r None = tt
answers_other r (Some a) = either_other (is_lasting r.side && not (is_invite r && is_success a.status)) (answer_to true r a.text ∷ []) (refl, tt)

-- ---- what a change sends

-- a request in between settles
pub settled_others : (server : Server) (now : ℕ) (acks : List Packet) (relayed : Option Upward) (between : OpenRequest) → AllByRecursion IsOther acks
    → AllByRecursion IsOther (change_packets (settled server now acks relayed between))
settled_others server now acks relayed between other =
    let told : OpenRequest = after_upward now relayed between in
    let best : Option Upward = best_upward server told in
    let after : OpenRequest = after_upward now best told in
    all_joined IsOther (acks ++ upward_packets (with_cancels now after) (upward_list relayed ++ upward_list best))
    (flat_map (branch_packets server false after) (new_cancels now after))
    (all_joined IsOther acks (upward_packets (with_cancels now after) (upward_list relayed ++ upward_list best)) other
    (upward_other (with_cancels now after) (upward_list relayed ++ upward_list best)))
    (cancels_other server now after after.branches)

-- a response to a CANCEL
cancel_responded_others : (server : Server) (now : ℕ) (r : OpenRequest) (b : Branch) (status : ℕ) (m : Message)
    → AllByRecursion IsOther (change_packets (cancel_responded server now r b status m))
cancel_responded_others server now r b status m = by_tests (is_provisional status) (is_final b.phase) where
  by_tests : (s t : Bool)
      → AllByRecursion IsOther (change_packets (cond s (settled server now [] None (with_phase b (other_heard b.phase) r))
      (cond t (settled server now [] None r) (settled server now [] None (with_phase b (Done (now + 5000) status) r)))))
  by_tests true t = settled_others server now [] None (with_phase b (other_heard b.phase) r) tt
  by_tests false true = settled_others server now [] None r tt
  by_tests false false = settled_others server now [] None (with_phase b (Done (now + 5000) status) r) tt

-- a response to the request to a target
target_responded_others : (server : Server) (now : ℕ) (r : OpenRequest) (b : Branch) (status : ℕ) (m : Message)
    → AllByRecursion IsOther (change_packets (target_responded server now r b status m))
target_responded_others server now r b status m = by_tests (is_provisional status) (is_final b.phase) where
  by_tests : (s t : Bool)
      → AllByRecursion IsOther (change_packets (cond s (settled server now [] (relayed_provisional r b status m) (with_phase b (heard r now status b.phase) r))
      (cond t (settled server now [] (further r b b.phase status m) r) (settled server now (acks_of server r b status m) (relayed_success r b status m)
      (with_answer r b now status m)))))
  by_tests true t = settled_others server now [] (relayed_provisional r b status m) (with_phase b (heard r now status b.phase) r) tt
  by_tests false true = settled_others server now [] (further r b b.phase status m) r tt
  by_tests false false = settled_others server now (acks_of server r b status m) (relayed_success r b status m) (with_answer r b now status m)
      (acks_other server r b status m)

-- a response
responded_others : (server : Server) (now : ℕ) (r : OpenRequest) (b : Branch) (status : ℕ) (m : Message)
    → AllByRecursion IsOther (change_packets (responded server now r b status m))
responded_others server now r b status m = by_kind b.is_cancel where
  by_kind : (t : Bool) → AllByRecursion IsOther (change_packets (cond t (cancel_responded server now r b status m) (target_responded server now r b status m)))
  by_kind true = cancel_responded_others server now r b status m
  by_kind false = target_responded_others server now r b status m

-- a deadline
overdue_others : (server : Server) (now : ℕ) (r : OpenRequest) (change : Change) → IsOverdue server now r change → AllByRecursion IsOther (change_packets change)
overdue_others server now r _ (OfSide is) = settled_others server now [] None (record r { side = Closed }) tt
overdue_others server now r _ (OfBranch b there is) = settled_others server now [] None (branch_overdue r b) tt

-- Whatever changes a request, what is sent for it is no request to a target.
pub change_others : (server : Server) (state : ProxyState) (act : Act) (now : ℕ) (r : OpenRequest) (change : Change) (again : List Packet)
    → IsChangeAt server state act now r change again
    → AllByRecursion IsOther (change_packets change)
change_others server state act now r _ _ (ByResponse a bytes m status reason b said start is there) = responded_others server now r b status m
change_others server state act now r change _ (ByDeadline _ passes) = overdue_others server now r change passes
change_others server state act now r _ _ (ByFault at ticket b is number found) = settled_others server now [] None (given_up b 503 r) tt
change_others server state act now r _ _ (ByCancel a bytes m short key said method key_is found) =
    settled_others server now [] None (cond (is_invite r && is_answering r.side) (marked r) r) tt

-- nor is what goes again with it
pub change_again : (server : Server) (state : ProxyState) (act : Act) (now : ℕ) (r : OpenRequest) (change : Change) (again : List Packet)
    → IsChangeAt server state act now r change again → AllByRecursion IsOther again
change_again server state act now r _ _ (ByResponse a bytes m status reason b said start is there) = acked_other server r b status
change_again server state act now r _ _ (ByDeadline change passes) = tt
change_again server state act now r _ _ (ByFault at ticket b is number found) = tt
change_again server state act now r _ _ (ByCancel a bytes m short key said method key_is found) = tt

-- ---- the request after a change

-- a request in between settles
pub settled_succeeds : (server : Server) (now : ℕ) (acks : List Packet) (relayed : Option Upward) (r between : OpenRequest) → Succeeds r between
    → Succeeds r (settled server now acks relayed between).request
settled_succeeds server now acks relayed r between h =
    let told : OpenRequest = after_upward now relayed between in
    let best : Option Upward = best_upward server told in
    let after : OpenRequest = after_upward now best told in
    succeeds_both r between (with_cancels now after) h
    (succeeds_both between told (with_cancels now after) (upward_succeeds now relayed between)
    (succeeds_both told after (with_cancels now after) (upward_succeeds now best told) (cancels_succeed now after)))

-- one more final answer leaves the branches
final_succeeds : (r between : OpenRequest) (f : Final) → Succeeds r between → Succeeds r (with_final f between)
final_succeeds r between f h = succeeds_both r between (with_final f between) h (succeeds_alike between (with_final f between) refl refl refl)

-- a branch is given up
given_up_succeeds : (r : OpenRequest) (b : Branch) (status : ℕ) → AreApart r.branches → IsIn b r.branches → Succeeds r (given_up b status r)
given_up_succeeds r b status apart there =
    final_succeeds r (with_phase b Ended r) (record { status = status; message = None }) (phased_succeeds r b b.final_to Ended apart there (λ target. tt))

-- a response to a CANCEL
cancel_responded_succeeds : (server : Server) (now : ℕ) (r : OpenRequest) (b : Branch) (status : ℕ) (m : Message) → b.is_cancel ≡ true → AreApart r.branches
    → IsIn b r.branches
    → Succeeds r (cancel_responded server now r b status m).request
cancel_responded_succeeds server now r b status m cancel apart there = by_tests (is_provisional status) (is_final b.phase) where
  no_target : {X : Type 0} → b.is_cancel ≡ false → X
  no_target target = absurd (cc)

  by_tests : (s t : Bool)
      → Succeeds r (cond s (settled server now [] None (with_phase b (other_heard b.phase) r))
      (cond t (settled server now [] None r) (settled server now [] None (with_phase b (Done (now + 5000) status) r)))).request
  by_tests true t = settled_succeeds server now [] None r (with_phase b (other_heard b.phase) r)
      (phased_succeeds r b b.final_to (other_heard b.phase) apart there (λ target. no_target target))
  by_tests false true = settled_succeeds server now [] None r r (succeeds_alike r r refl refl refl)
  by_tests false false =
      settled_succeeds server now [] None r (with_phase b (Done (now + 5000) status) r)
      (phased_succeeds r b b.final_to (Done (now + 5000) status) apart there (λ target. no_target target))

-- the first final answer of a branch to a target
answer_succeeds : (r : OpenRequest) (b : Branch) (now status : ℕ) (m : Message) → is_final b.phase ≡ false → AreApart r.branches → IsIn b r.branches
    → Succeeds r (with_answer r b now status m)
answer_succeeds r b now status m lives apart there =
    by_test (is_invite r && (is_success status || is_decline status)) (with_final (final_of status m)
    (with_phase (told_to r b status m) (Done (now + linger r) status) r))
    (final_succeeds r (with_phase (told_to r b status m) (Done (now + linger r) status) r) (final_of status m)
    (phased_succeeds r b (acked_to r status m) (Done (now + linger r) status) apart there
    (λ target. done_after (is_invite r) (now + linger r) status b.phase lives))) where
      by_test : (t : Bool) (between : OpenRequest) → Succeeds r between → Succeeds r (cond t (marked between) between)
      by_test true between own = succeeds_both r between (marked between) own (marked_succeeds between)
      by_test false between own = own

-- a response to the request to a target
target_responded_succeeds : (server : Server) (now : ℕ) (r : OpenRequest) (b : Branch) (status : ℕ) (m : Message) → AreApart r.branches → IsIn b r.branches
    → Succeeds r (target_responded server now r b status m).request
target_responded_succeeds server now r b status m apart there = by_tests (is_provisional status) (is_final b.phase) refl where
  by_tests : (s t : Bool) → is_final b.phase ≡ t
      → Succeeds r (cond s (settled server now [] (relayed_provisional r b status m) (with_phase b (heard r now status b.phase) r))
      (cond t (settled server now [] (further r b b.phase status m) r) (settled server now (acks_of server r b status m) (relayed_success r b status m)
      (with_answer r b now status m)))).request
  by_tests true t is =
      settled_succeeds server now [] (relayed_provisional r b status m) r (with_phase b (heard r now status b.phase) r)
      (phased_succeeds r b b.final_to (heard r now status b.phase) apart there (λ target. heard_after r now status b.phase))
  by_tests false true is = settled_succeeds server now [] (further r b b.phase status m) r r (succeeds_alike r r refl refl refl)
  by_tests false false is = settled_succeeds server now (acks_of server r b status m) (relayed_success r b status m) r (with_answer r b now status m)
      (answer_succeeds r b now status m is apart there)

-- a response
responded_succeeds : (server : Server) (now : ℕ) (r : OpenRequest) (b : Branch) (status : ℕ) (m : Message) → AreApart r.branches → IsIn b r.branches
    → Succeeds r (responded server now r b status m).request
responded_succeeds server now r b status m apart there = by_kind b.is_cancel refl where
  by_kind : (t : Bool) → b.is_cancel ≡ t → Succeeds r (cond t (cancel_responded server now r b status m) (target_responded server now r b status m)).request
  by_kind true is = cancel_responded_succeeds server now r b status m is apart there
  by_kind false is = target_responded_succeeds server now r b status m apart there

-- the deadline of a branch to a target
target_overdue_succeeds : (r : OpenRequest) (b : Branch) (phase : Phase) → AreApart r.branches → IsIn b r.branches → Succeeds r (target_overdue r b phase)
target_overdue_succeeds r b (Unheard due) apart there = given_up_succeeds r b 408 apart there
target_overdue_succeeds r b (Heard due) apart there = by_test (is_invite r) where
  by_test : (t : Bool) → Succeeds r (cond t (record r { branches = map (λ (x : Branch). cond (is_same_branch x b) (record x { wants_cancel = true }) x) r.branches })
      (given_up b 408 r))
  by_test true = wanting_succeeds r (λ (x : Branch). is_same_branch x b)
  by_test false = given_up_succeeds r b 408 apart there
target_overdue_succeeds r b (Cancelled due) apart there = given_up_succeeds r b 487 apart there
target_overdue_succeeds r b (Done due status) apart there = phased_succeeds r b b.final_to Ended apart there (λ target. tt)
target_overdue_succeeds r b Ended apart there = succeeds_alike r r refl refl refl

-- a deadline
overdue_succeeds : (server : Server) (now : ℕ) (r : OpenRequest) (change : Change) → IsOverdue server now r change → AreApart r.branches → Succeeds r change.request
overdue_succeeds server now r _ (OfSide is) apart = settled_succeeds server now [] None r (record r { side = Closed })
    (succeeds_alike r (record r { side = Closed }) refl refl refl)
overdue_succeeds server now r _ (OfBranch b there is) apart = settled_succeeds server now [] None r (branch_overdue r b) (by_kind b.is_cancel) where
  by_kind : (t : Bool) → Succeeds r (cond t (with_phase b Ended r) (target_overdue r b b.phase))
  by_kind true = phased_succeeds r b b.final_to Ended apart (in_from_contains r.branches b there) (λ target. tt)
  by_kind false = target_overdue_succeeds r b b.phase apart (in_from_contains r.branches b there)

-- the caller's CANCEL
cancelled_succeeds : (server : Server) (now : ℕ) (r : OpenRequest) → Succeeds r (cancelled server now r).request
cancelled_succeeds server now r = by_test (is_invite r && is_answering r.side) where
  by_test : (t : Bool) → Succeeds r (settled server now [] None (cond t (marked r) r)).request
  by_test true = settled_succeeds server now [] None r (marked r) (marked_succeeds r)
  by_test false = settled_succeeds server now [] None r r (succeeds_alike r r refl refl refl)

-- Whatever changes a request, what it makes of it follows it.
pub change_succeeds : (server : Server) (state : ProxyState) (act : Act) (now : ℕ) (r : OpenRequest) (change : Change) (again : List Packet)
    → IsChangeAt server state act now r change again → AreApart r.branches
    → Succeeds r change.request
change_succeeds server state act now r _ _ (ByResponse a bytes m status reason b said start is there) apart =
    responded_succeeds server now r b status m apart (in_from_contains r.branches b there)
change_succeeds server state act now r change _ (ByDeadline _ passes) apart = overdue_succeeds server now r change passes apart
change_succeeds server state act now r _ _ (ByFault at ticket b is number found) apart =
    settled_succeeds server now [] None r (given_up b 503 r) (given_up_succeeds r b 503 apart (found_in (is_failed ticket.branch) r.branches b found).0)
change_succeeds server state act now r _ _ (ByCancel a bytes m short key said method key_is found) apart = cancelled_succeeds server now r
