-- What goes again of an open request, and when (RFC 3261 17).
use Rattle.std.specs.Prelude.{◌≡◌, ℕ, ◌+◌, ◌*◌, min, Bool, true, false, not, ◌&&◌, if◌then◌else◌, List, [], ◌∷◌, ◌++◌, map, Contains}
use Rattle.std.specs.Prelude.{Option, Some, None}
use Rattle.std.specs.Option.{option_to_list}
use Rattle.std.specs.List.{flat_map, filter_map}
use Rattle.sip_timers.specs.Intervals.{T1, T2}
use Rattle.sip_event.specs.declared.packet.Packet.{Packet}
use Rattle.sip_state.specs.declared.server.Server.{Server}
use Rattle.sip_state.specs.declared.branch.Phase.{Phase}
use Rattle.sip_state.specs.declared.open_request.Side.{Side}
use Rattle.sip_state.specs.declared.open_request.LastAnswer.{LastAnswer}
use Rattle.sip_state.specs.declared.branch.Branch.{Branch}
use Rattle.sip_state.specs.declared.resend.Resend.{Resend}
use Rattle.sip_state.specs.declared.open_request.OpenRequest.{OpenRequest}
use Rattle.sip_state.specs.declared.branch.Phase.TheVariants.{Unheard, Heard, Cancelled, Done, Ended}
use Rattle.sip_state.specs.declared.open_request.Side.TheVariants.{Answering, Closing, Acknowledged, Closed}
use Rattle.sip_state.specs.State.{is_invite, is_success, is_failure}
use Rattle.model_context.specs.Branches.{is_same_branch, is_unheard, is_closing, was_refused}
use Rattle.model_context.specs.Sending.{answer_to, branch_packets, ack_packets}

-- ---- answers

-- whether the last answer may still be sent again
abbrev pub is_lasting : Side → Bool
is_lasting Answering = true
is_lasting (Closing due) = true
is_lasting (Acknowledged due) = false
is_lasting Closed = false

-- the last answer, but not a 2xx to an INVITE, which its core sends again (RFC 3261 13.3.1.4, 17.2)
abbrev pub answers_again : OpenRequest → Option LastAnswer → List Packet
answers_again r None = []
answers_again r (Some a) = if is_lasting r.side && not (is_invite r && is_success a.status) then answer_to true r a.text ∷ [] else []

-- ---- requests

-- whether the request of a branch to a target goes out again, by whether it is an INVITE: that does until a response comes, another
-- one until the final one comes
-- (RFC 3261 17.1.1.2, 17.1.2.2)
abbrev pub is_sent_again : Bool → Phase → Bool
is_sent_again invite (Unheard due) = true
is_sent_again invite (Heard due) = not invite
is_sent_again invite (Cancelled due) = false
is_sent_again invite (Done due status) = false
is_sent_again invite Ended = false

-- a CANCEL goes out again until its final answer comes
abbrev pub is_cancelled_again : Phase → Bool
is_cancelled_again (Unheard due) = true
is_cancelled_again (Heard due) = true
is_cancelled_again (Cancelled due) = false
is_cancelled_again (Done due status) = false
is_cancelled_again Ended = false

-- whether what a branch sends goes out again
abbrev pub goes_again : OpenRequest → Branch → Bool
goes_again r b = if b.is_cancel then is_cancelled_again b.phase else is_sent_again (is_invite r) b.phase

-- the ACK of the final answer of a branch of an INVITE that is no 2xx, again (RFC 3261 17.1.1.2)
abbrev pub acks_again : Server → OpenRequest → Branch → Phase → List Packet
acks_again server r b (Done due status) = if is_invite r && not b.is_cancel && is_failure status then ack_packets server true r b b.final_to else []
acks_again server r b (Unheard due) = []
acks_again server r b (Heard due) = []
acks_again server r b (Cancelled due) = []
acks_again server r b Ended = []

-- a further 300 to 699 of a branch gets the ACK of the first again
abbrev pub acked_again : Server → OpenRequest → Branch → ℕ → List Packet
acked_again server r b status = if is_failure status then acks_again server r b b.phase else []

-- ---- moments

-- the next time: after twice the wait, but at most this long (RFC 3261 17.1.1.2, 17.1.2.2, 17.2.1)
abbrev pub resend_after : ℕ → Resend → Resend
resend_after most x = let wait = min (2 * x.wait) most in record { due = x.due + wait; wait = wait }

-- What a branch sends goes next: an INVITE after twice the wait, a CANCEL and any other request after at most 4,000 ms, and after so
-- much once they were heard (RFC 3261 17.1.1.2, 17.1.2.2)
abbrev pub branch_next : OpenRequest → Branch → Resend
branch_next r b =
    if is_invite r && not b.is_cancel then resend_after (64 * T1) b.again
    else if is_unheard b.phase then resend_after T2 b.again
    else record { due = b.again.due + T2; wait = T2 }

-- the last answer goes next: after twice the wait, but at most 4,000 ms (RFC 3261 17.2.1: Timer G)
abbrev pub answer_next : OpenRequest → Resend
answer_next r = resend_after T2 r.again

-- whether the last answer goes again by itself: a 300 to 699 to an INVITE does until its ACK comes (RFC 3261 17.2.1)
abbrev pub insists : OpenRequest → Bool
insists r = is_invite r && is_closing r.side && was_refused r.answer

-- the moment at which the last answer goes again, if it does
abbrev pub answer_due : OpenRequest → Option ℕ
answer_due r = if insists r then Some r.again.due else None

-- the moment at which what a branch sends goes again, if it does
abbrev pub branch_due : OpenRequest → Branch → Option ℕ
branch_due r b = if goes_again r b then Some b.again.due else None

-- the moments at which something of an open request goes again
abbrev pub resends_of : OpenRequest → List ℕ
resends_of r = option_to_list (answer_due r) ++ filter_map (branch_due r) r.branches

-- all such moments
abbrev pub resends : List OpenRequest → List ℕ
resends requests = flat_map resends_of requests

-- a branch that goes next then, if it is this one
abbrev pub resent_branch : Branch → Resend → Branch → Branch
resent_branch b next x = if is_same_branch x b then record x { again = next } else x

-- a request whose branch sent again
abbrev pub with_resend : Branch → OpenRequest → OpenRequest
with_resend b r = record r { branches = map (resent_branch b (branch_next r b)) r.branches }

-- At a moment something of an open request goes again: what is sent, and the request after it.
pub data IsResent (server : Server) (due : ℕ) (r : OpenRequest) : List Packet → OpenRequest → Type 0 where
  OfAnswer : answer_due r ≡ Some due → IsResent server due r (answers_again r r.answer) (record r { again = answer_next r })
  OfRequest : (b : Branch) → Contains r.branches b → branch_due r b ≡ Some due
      → IsResent server due r (branch_packets server true r b) (with_resend b r)

-- ---- the whole

-- all that may be sent again of a branch
abbrev pub branch_again : Server → OpenRequest → Branch → List Packet
branch_again server r b = (if goes_again r b then branch_packets server true r b else []) ++ acks_again server r b b.phase

-- what may be sent again of an open request
abbrev pub retransmissions_of : Server → OpenRequest → List Packet
retransmissions_of server r = answers_again r r.answer ++ flat_map (branch_again server r) r.branches

-- a packet is what may be sent again of one of the open requests
pub record IsRetransmission (server : Server) (requests : List OpenRequest) (p : Packet) : Type 0 where
  pub request : OpenRequest
  pub is_open : Contains requests request
  pub is_one : Contains (retransmissions_of server request) p
