-- One open request: what a response, a deadline, a fault or a CANCEL changes of it, and what it sends then (RFC 3261 16.7 to 16.10, 17; RFC 6026).
-- Moments and deadlines are in milliseconds.
use Rattle.std.specs.Prelude.{◌*◌, ℕ, ◌+◌, Bool, true, false, not, ◌&&◌, ◌||◌, ◌==◌, if◌then◌else◌, List, [], ◌∷◌, ◌++◌, map, filter, Option}
use Rattle.std.specs.Prelude.{Some, None, option_map}
use Rattle.std.specs.Option.{option_map_or}
use Rattle.std.specs.List.{flat_map, list_all}
use Rattle.sip_timers.specs.Intervals.{T1, T4, timer_C, timer_C_past_B}
use Rattle.sip_message_form.specs.declared.message.Message.{Message}
use Rattle.sip_message_form.specs.Text.{text_of}
use Rattle.sip_message_fields.specs.declared.field_name.FieldName.TheVariants as Name
use Rattle.sip_message_fields.specs.Values.{first_value}
use Rattle.sip_state.specs.edits.OwnVia.{without_top_via}
use Rattle.sip_best.specs.declared.final_answer.Final.{Final}
use Rattle.sip_best.specs.Best.{best_of}
use Rattle.sip_event.specs.declared.packet.Packet.{Packet}
use Rattle.sip_state.specs.declared.server.Server.{Server}
use Rattle.sip_state.specs.declared.branch.Phase.{Phase}
use Rattle.sip_state.specs.declared.open_request.Side.{Side}
use Rattle.sip_state.specs.declared.open_request.LastAnswer.{LastAnswer}
use Rattle.sip_state.specs.declared.branch.Branch.{Branch}
use Rattle.sip_state.specs.declared.open_request.OpenRequest.{OpenRequest}
use Rattle.sip_state.specs.declared.branch.Phase.TheVariants.{Unheard, Heard, Cancelled, Done, Ended}
use Rattle.sip_state.specs.declared.open_request.Side.TheVariants.{Answering, Closing, Acknowledged, Closed}
use Rattle.sip_state.specs.State.{first_resend, is_invite, is_final, is_answering, target_branches, is_success, is_failure, is_decline}
use Rattle.sip_state.specs.State.{is_provisional}
use Rattle.model_context.specs.Sending.{made_answer, branch_packets, ack_packets}
use Rattle.sip_state.specs.declared.open_request.Upward.{Upward}

-- What an event makes of an open request: the request after it, and what is sent: ACKs, then what goes to the caller, then CANCELs.
pub record Change : Type 0 where
  pub request : OpenRequest
  pub acks : List Packet
  pub upward : List Upward
  pub cancels : List Packet

-- ---- branches

-- whether two branches are one: their numbers and whether they are CANCELs agree
abbrev pub is_same_branch : Branch → Branch → Bool
is_same_branch a b = a.number == b.number && (if a.is_cancel then b.is_cancel else not b.is_cancel)

-- a branch in another phase, with what this one says of its ACK and of when it goes again
abbrev pub turned : Branch → Phase → Branch → Branch
turned b phase x = record x { phase = phase; final_to = b.final_to; again = b.again }

-- the same of a branch only if it is this one
abbrev pub phased : Branch → Phase → Branch → Branch
phased b phase x = if is_same_branch x b then turned b phase x else x

-- a request with a branch in another phase
abbrev pub with_phase : Branch → Phase → OpenRequest → OpenRequest
with_phase b phase r = record r { branches = map (phased b phase) r.branches }

-- one more final answer of its branches, which is kept while none went to the caller
abbrev pub with_final : Final → OpenRequest → OpenRequest
with_final f r = record r { finals = if is_answering r.side then r.finals ++ f ∷ [] else r.finals }

-- a branch to a target that has no final answer is to be cancelled
abbrev pub marked_branch : Branch → Branch
marked_branch b = if b.is_cancel || is_final b.phase then b else record b { wants_cancel = true }

-- each branch to a target that has no final answer is to be cancelled (RFC 3261 16.7 step 10, 16.10)
abbrev pub marked : OpenRequest → OpenRequest
marked r = record r { branches = map marked_branch r.branches }

-- a branch ends as if it had answered with this status (RFC 3261 16.8, 16.9)
abbrev pub given_up : Branch → ℕ → OpenRequest → OpenRequest
given_up b status r = with_final (record { status = status; message = None }) (with_phase b Ended r)

-- ---- what goes to the caller

-- The answer that was sent last. Of a 2xx to an INVITE its bytes aren't kept: its core sends it again, and no transaction (RFC 3261
-- 13.3.1.4, RFC 6026 7.1).
abbrev pub last_answer : OpenRequest → ℕ → List ℕ → LastAnswer
last_answer r status text = record { status = status; text = if is_invite r && is_success status then [] else text }

-- the request after an answer of its went to the caller: the first final one begins to close it (RFC 3261 17.2: Timers H, J and L),
-- and final answers are kept no longer
abbrev pub answered : ℕ → Upward → OpenRequest → OpenRequest
answered now u r =
    record r {
      answer = Some (last_answer r u.status (text_of u.message));
      side = if is_answering r.side && not (is_provisional u.status) then Closing (now + 64 * T1) else r.side;
      finals = if is_provisional u.status then r.finals else [];
      again = first_resend now;
    }

-- the best answer, as it goes to the caller: one that came, or one that is made here
abbrev pub upward_of : Server → OpenRequest → Final → Upward
upward_of server r f =
    record {
      status = f.status;
      message = option_map_or (λ m. m) f.message (made_answer server r.number r.request.message r.request.source f.status []);
      target = None;
    }

-- whether every branch to a target has a final answer
abbrev pub all_final : OpenRequest → Bool
all_final r = list_all (λ (b : Branch). is_final b.phase) (target_branches r)

-- the best answer goes to the caller once every branch has a final one, unless a final one went before (RFC 3261 16.7 steps 5 and 6)
abbrev pub best_upward : Server → OpenRequest → Option Upward
best_upward server r = if is_answering r.side && all_final r then option_map (upward_of server r) (best_of r.finals) else None

-- ---- CANCELs

-- whether a branch is sent a CANCEL now: it is to be cancelled, and a provisional response came (RFC 3261 9.1)
abbrev pub is_ready : Phase → Bool
is_ready (Unheard due) = false
is_ready (Heard due) = true
is_ready (Cancelled due) = false
is_ready (Done due status) = false
is_ready Ended = false

-- whether a branch to a target is sent its CANCEL now (RFC 3261 9.1)
abbrev pub is_cancellable : Branch → Bool
is_cancellable b = not b.is_cancel && b.wants_cancel && is_ready b.phase

-- the CANCEL of a branch
abbrev pub cancel_branch : ℕ → Branch → Branch
cancel_branch now b = record b { is_cancel = true; wants_cancel = false; phase = Unheard (now + 64 * T1); again = first_resend now }

-- the CANCELs of the branches that are sent one now
abbrev pub new_cancels : ℕ → OpenRequest → List Branch
new_cancels now r = map (cancel_branch now) (filter is_cancellable r.branches)

-- a branch that is sent a CANCEL has another 32,000 ms for its final answer
abbrev pub held_branch : ℕ → Branch → Branch
held_branch now b = record b { phase = Cancelled (now + 64 * T1) }

-- a branch, and right behind it the CANCEL that it is sent now, if it is
abbrev pub with_cancel : ℕ → Branch → List Branch
with_cancel now b = if is_cancellable b then held_branch now b ∷ cancel_branch now b ∷ [] else b ∷ []

-- the branches with the CANCELs that are sent now
abbrev pub with_cancels : ℕ → OpenRequest → OpenRequest
with_cancels now r = record r { branches = flat_map (with_cancel now) r.branches }

-- ---- after an event

-- the request, once its best answer went to the caller, if it is time for it
abbrev pub after_upward : ℕ → Option Upward → OpenRequest → OpenRequest
after_upward now None r = r
after_upward now (Some u) r = answered now u r

-- what goes to the caller, as a list
abbrev pub upward_list : Option Upward → List Upward
upward_list None = []
upward_list (Some u) = u ∷ []

-- What follows every event: what goes to the caller at once, then the best answer if it is time for it, then the CANCELs of the
-- branches that are ready for one.
abbrev pub settled : Server → ℕ → List Packet → Option Upward → OpenRequest → Change
settled server now acks relayed r =
    let told : OpenRequest = after_upward now relayed r in
    let best : Option Upward = best_upward server told in
    let after : OpenRequest = after_upward now best told in
    record {
      request = with_cancels now after;
      acks = acks;
      upward = upward_list relayed ++ upward_list best;
      cancels = flat_map (branch_packets server false after) (new_cancels now after);
    }

-- ---- a response

-- the phase after a provisional response to an INVITE: it is heard, and 101 to 199 set Timer C anew (RFC 3261 16.7 step 2, 16.8)
abbrev pub invite_heard : ℕ → ℕ → Phase → Phase
invite_heard now status (Unheard due) = if status == 100 then Heard (due + timer_C_past_B) else Heard (now + timer_C)
invite_heard now status (Heard due) = if status == 100 then Heard due else Heard (now + timer_C)
invite_heard now status (Cancelled due) = Cancelled due
invite_heard now status (Done due first) = Done due first
invite_heard now status Ended = Ended

-- the same to another request: its deadline stays (RFC 3261 17.1.2.2, Timer F)
abbrev pub other_heard : Phase → Phase
other_heard (Unheard due) = Heard due
other_heard (Heard due) = Heard due
other_heard (Cancelled due) = Cancelled due
other_heard (Done due status) = Done due status
other_heard Ended = Ended

-- the phase after a provisional response, by the request's method (RFC 3261 17.1)
abbrev pub heard : OpenRequest → ℕ → ℕ → Phase → Phase
heard r now status phase = if is_invite r then invite_heard now status phase else other_heard phase

-- an answer from a branch, as it goes to the caller (RFC 3261 16.7 step 3)
abbrev pub relayed_from : Branch → ℕ → Message → Upward
relayed_from b status m = record { status = status; message = without_top_via m; target = b.address }

-- a provisional response other than 100 goes to the caller while its branch, and the request, have no final answer (RFC 3261 16.7 step 5)
abbrev pub relayed_provisional : OpenRequest → Branch → ℕ → Message → Option Upward
relayed_provisional r b status m =
    if not (status == 100) && not (is_final b.phase) && is_answering r.side then Some (relayed_from b status m) else None

-- whether the answer that was sent last is a 2xx
abbrev pub has_success : Option LastAnswer → Bool
has_success None = false
has_success (Some a) = is_success a.status

-- whether a final answer was sent, and its transaction lives
abbrev pub is_closing : Side → Bool
is_closing Answering = false
is_closing (Closing due) = true
is_closing (Acknowledged due) = false
is_closing Closed = false

-- an INVITE whose 2xx went to the caller, while its transaction lives (RFC 6026 7.1: Accepted)
abbrev pub is_accepted : OpenRequest → Bool
is_accepted r = is_invite r && is_closing r.side && has_success r.answer

-- a 2xx goes to the caller at once: the first, and each further one of an INVITE while its transaction lives (RFC 3261 16.7 step 5, RFC 6026 7.1)
abbrev pub relayed_success : OpenRequest → Branch → ℕ → Message → Option Upward
relayed_success r b status m = if is_success status && (is_answering r.side || is_accepted r) then Some (relayed_from b status m) else None

-- how long a branch with a final answer takes more of them: Timers D and M of an INVITE, K of another (RFC 3261 17.1, RFC 6026 7.2)
abbrev pub linger : OpenRequest → ℕ
linger r = if is_invite r then 64 * T1 else T4

-- the final answer of a branch, without its top Via
abbrev pub final_of : ℕ → Message → Final
final_of status m = record { status = status; message = Some (without_top_via m) }

-- a 2xx or 6xx of an INVITE ends the search: the other branches are to be cancelled (RFC 3261 16.7 step 10)
abbrev pub search_ended : OpenRequest → ℕ → OpenRequest → OpenRequest
search_ended r status after = if is_invite r && (is_success status || is_decline status) then marked after else after

-- To of a final answer that this server acknowledges: an INVITE's that is no 2xx, if it has one (RFC 3261 17.1.1.3)
abbrev pub acked_to : OpenRequest → ℕ → Message → Option (List ℕ)
acked_to r status m = if is_invite r && is_failure status then first_value Name.To m.fields else None

-- a branch that was told by its final answer what its ACK is made with
abbrev pub told_to : OpenRequest → Branch → ℕ → Message → Branch
told_to r b status m = record b { final_to = acked_to r status m }

-- the request after the first final answer of a branch
abbrev pub with_answer : OpenRequest → Branch → ℕ → ℕ → Message → OpenRequest
with_answer r b now status m = search_ended r status (with_final (final_of status m)
    (with_phase (told_to r b status m) (Done (now + linger r) status) r))

-- the ACK of a final answer of an INVITE that is no 2xx
abbrev pub acks_of : Server → OpenRequest → Branch → ℕ → Message → List Packet
acks_of server r b status m = if is_invite r && is_failure status then ack_packets server false r b (first_value Name.To m.fields) else []

-- a further 2xx of a branch of an INVITE goes to the caller, too; any other further final answer changes nothing
abbrev pub further : OpenRequest → Branch → Phase → ℕ → Message → Option Upward
further r b (Done due first) status m = if is_invite r && is_success first then relayed_success r b status m else None
further r b (Unheard due) status m = None
further r b (Heard due) status m = None
further r b (Cancelled due) status m = None
further r b Ended status m = None

-- a response to the request of a branch
abbrev pub target_responded : Server → ℕ → OpenRequest → Branch → ℕ → Message → Change
target_responded server now r b status m =
    if is_provisional status then settled server now [] (relayed_provisional r b status m) (with_phase b (heard r now status b.phase) r)
    else if is_final b.phase then settled server now [] (further r b b.phase status m) r
    else settled server now (acks_of server r b status m) (relayed_success r b status m) (with_answer r b now status m)

-- a response to a CANCEL of this server goes nowhere
abbrev pub cancel_responded : Server → ℕ → OpenRequest → Branch → ℕ → Message → Change
cancel_responded server now r b status m =
    if is_provisional status then settled server now [] None (with_phase b (other_heard b.phase) r)
    else if is_final b.phase then settled server now [] None r
    else settled server now [] None (with_phase b (Done (now + T4) status) r)

-- a response
abbrev pub responded : Server → ℕ → OpenRequest → Branch → ℕ → Message → Change
responded server now r b status m = if b.is_cancel then cancel_responded server now r b status m else target_responded server now r b status m

-- ---- a deadline

-- the deadline of a branch to a target: an INVITE that was heard is to be cancelled (Timer C); one that was sent a CANCEL counts as
-- 487, another one as 408 (RFC 3261 16.8, 17.1)
abbrev pub target_overdue : OpenRequest → Branch → Phase → OpenRequest
target_overdue r b (Unheard due) = given_up b 408 r
target_overdue r b (Heard due) =
    if is_invite r then record r { branches = map (λ (x : Branch). if is_same_branch x b then record x { wants_cancel = true } else x) r.branches }
    else given_up b 408 r
target_overdue r b (Cancelled due) = given_up b 487 r
target_overdue r b (Done due status) = with_phase b Ended r
target_overdue r b Ended = r

-- a CANCEL ends with nothing
abbrev pub branch_overdue : OpenRequest → Branch → OpenRequest
branch_overdue r b = if b.is_cancel then with_phase b Ended r else target_overdue r b b.phase

-- the deadline of a branch
abbrev pub overdue : Server → ℕ → OpenRequest → Branch → Change
overdue server now r b = settled server now [] None (branch_overdue r b)

-- the deadline of the answering side: its transaction ends (RFC 3261 17.2: Timers H, I and J; RFC 6026: L)
abbrev pub side_overdue : Server → ℕ → OpenRequest → Change
side_overdue server now r = settled server now [] None (record r { side = Closed })

-- ---- a fault, and a CANCEL of the caller's

-- whether no response came to a branch
abbrev pub is_unheard : Phase → Bool
is_unheard (Unheard due) = true
is_unheard (Heard due) = false
is_unheard (Cancelled due) = false
is_unheard (Done due status) = false
is_unheard Ended = false

-- the request of a branch that nothing was heard of could not be sent: it counts as 503 (RFC 3261 16.9)
abbrev pub send_failed : Server → ℕ → OpenRequest → Branch → Change
send_failed server now r b = settled server now [] None (given_up b 503 r)

-- a CANCEL from the caller: an INVITE without a final answer is cancelled, and nothing else (RFC 3261 16.10)
abbrev pub cancelled : Server → ℕ → OpenRequest → Change
cancelled server now r = settled server now [] None (if is_invite r && is_answering r.side then marked r else r)

-- ---- an ACK that has the key of an open request

-- the answering side after an ACK of its final answer: Timer I (RFC 3261 17.2.1)
abbrev pub acknowledged_side : ℕ → Side → Side
acknowledged_side now (Closing due) = Acknowledged (now + T4)
acknowledged_side now Answering = Answering
acknowledged_side now (Acknowledged due) = Acknowledged due
acknowledged_side now Closed = Closed

-- whether the answer that was sent last is one of 300 to 699
abbrev pub was_refused : Option LastAnswer → Bool
was_refused None = false
was_refused (Some a) = is_failure a.status

-- the ACK of a final answer that is no 2xx (RFC 3261 17.2.1)
abbrev pub acknowledged : ℕ → OpenRequest → OpenRequest
acknowledged now r = if is_invite r && was_refused r.answer then record r { side = acknowledged_side now r.side } else r
