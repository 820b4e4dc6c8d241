-- The server transaction of an INVITE, and how it fits the answering side of its open request (RFC 3261 17.2.1;
-- RFC 6026 7.1).
use Rattle.std.specs.Prelude.{ℕ, ◌≡◌, ◌&&◌, Bool, true, false, if◌then◌else◌, List, [], ◌∷◌, Option, Some, None}
use Rattle.std.specs.Option.{option_map_or}
use Rattle.sip_event.specs.declared.packet.Packet.{Packet}
use Rattle.sip_timers.specs.declared.letter.Letter.{Letter}
use Rattle.sip_timers.specs.declared.letter.Letter.TheVariants as By
use Rattle.sip_transactions.specs.declared.server_actions.ServerAction.{ServerAction}
use Rattle.sip_transactions.specs.declared.server_actions.ServerAction.TheVariants.{Send, Up, Start}
use Rattle.sip_transactions.specs.declared.server_invite.ServerInvite.{ServerInvite}
use Rattle.sip_transactions.specs.declared.server_invite.ServerInvite.TheVariants.{Proceeding, Completed, Confirmed, Accepted, Terminated}
use Rattle.sip_context_branches.specs.state.declared.open_request.LastAnswer.{LastAnswer}
use Rattle.sip_context_branches.specs.state.declared.open_request.OpenRequest.{OpenRequest}
use Rattle.sip_context_branches.specs.state.declared.open_request.Side.{Side}
use Rattle.sip_context_branches.specs.state.declared.open_request.Side.TheVariants.{Answering, Closing, Acknowledged, Closed}
use Rattle.sip_context_branches.specs.state.declared.resend.Resend.{Resend}
use Rattle.sip_context_branches.specs.state.State.{is_answering, is_success, is_failure, is_provisional}
use Rattle.sip_context_branches.specs.context_model.Sending.{answer_to}
use Rattle.sip_context_branches.specs.context_model.Branches.{was_refused}

-- The state of the transaction, by how far the answering side is, the answer that was sent last, and when that goes
-- again: until its ACK a 300 to 699 does, and the state holds the wait before that.
pub data RunsInviteServer : Side → Option LastAnswer → Resend → ServerInvite → Type 0 where
  BeforeAnswer : (again : Resend) → RunsInviteServer Answering None again (Proceeding false)
  WhileProvisional : (a : LastAnswer) (again : Resend) → is_provisional a.status ≡ true → RunsInviteServer Answering (Some a) again (Proceeding true)
  AfterSuccess : (until : ℕ) (a : LastAnswer) (again : Resend) → is_success a.status ≡ true → RunsInviteServer (Closing until) (Some a) again Accepted
  AfterFailure : (until : ℕ) (a : LastAnswer) (again : Resend) → is_failure a.status ≡ true
      → RunsInviteServer (Closing until) (Some a) again (Completed again.wait)
  AfterAck : (until : ℕ) (a : LastAnswer) (again : Resend) → is_failure a.status ≡ true
      → RunsInviteServer (Acknowledged until) (Some a) again Confirmed
  WhenClosed : (answer : Option LastAnswer) (again : Resend) → RunsInviteServer Closed answer again Terminated

-- the timers of the transaction (RFC 3261 17.2.1, RFC 6026 7.1)
abbrev pub invite_side_timers : Side → Option LastAnswer → Resend → List (Letter × ℕ)
invite_side_timers Answering answer again = []
invite_side_timers (Closing until) answer again = if was_refused answer then (By.G, again.due) ∷ (By.H, until) ∷ [] else (By.L, until) ∷ []
invite_side_timers (Acknowledged until) answer again = (By.I, until) ∷ []
invite_side_timers Closed answer again = []

-- what is done at an answer of the core: it is sent; the first final one sets Timers G and H, or L
abbrev pub answer_actions : Side → ℕ → List ServerAction
answer_actions side status =
    if is_answering side && is_success status then Send ∷ Start By.L 32000 ∷ []
    else if is_answering side && is_failure status then Send ∷ Start By.G 500 ∷ Start By.H 32000 ∷ []
    else Send ∷ []

-- what is done at an ACK: that of a 300 to 699 sets Timer I, and that of a 2xx goes to the core
abbrev pub ack_actions : Side → Option LastAnswer → List ServerAction
ack_actions Answering answer = []
ack_actions (Closing until) answer = if was_refused answer then Start By.I 5000 ∷ [] else Up ∷ []
ack_actions (Acknowledged until) answer = []
ack_actions Closed answer = []

-- the last answer, sent again if it is to be
abbrev pub repeated : Bool → OpenRequest → Option LastAnswer → List Packet
repeated true r answer = option_map_or (λ (a : LastAnswer). answer_to true r a.text ∷ []) answer []
repeated false r answer = []
