-- The client transaction that runs a branch to a target of an INVITE, and how it fits the branch (RFC 3261 17.1.1;
-- RFC 6026 7.2).
use Rattle.std.specs.Prelude.{ℕ, ◌≡◌, ◌+◌, Bool, true, false, if◌then◌else◌, List, [], ◌∷◌}
use Rattle.sip_timers.specs.declared.letter.Letter.{Letter}
use Rattle.sip_timers.specs.declared.letter.Letter.TheVariants as By
use Rattle.sip_transactions.specs.declared.client_actions.ClientAction.{ClientAction}
use Rattle.sip_transactions.specs.declared.client_actions.ClientAction.TheVariants.{Ack, AckAgain, Up, Start}
use Rattle.sip_transactions.specs.declared.client_actions.Report.TheVariants.{Response}
use Rattle.sip_transactions.specs.declared.client_invite.ClientInvite.{ClientInvite}
use Rattle.sip_transactions.specs.declared.client_invite.ClientInvite.TheVariants.{Calling, Proceeding, Completed, Accepted, Terminated}
use Rattle.sip_context_branches.specs.state.declared.branch.Phase.{Phase}
use Rattle.sip_context_branches.specs.state.declared.branch.Phase.TheVariants.{Unheard, Heard, Cancelled, Done, Ended}
use Rattle.sip_context_branches.specs.state.declared.resend.Resend.{Resend}
use Rattle.sip_context_branches.specs.state.State.{is_final, is_success, is_failure}

-- The state of the transaction in a phase of its branch, whose request goes again then: while no response came,
-- it holds the wait before that.
pub data RunsInviteClient : Phase → Resend → ClientInvite → Type 0 where
  WhileUnheard : (until : ℕ) (again : Resend) → RunsInviteClient (Unheard until) again (Calling again.wait)
  WhileHeard : (until : ℕ) (again : Resend) → RunsInviteClient (Heard until) again Proceeding
  WhileCancelled : (until : ℕ) (again : Resend) → RunsInviteClient (Cancelled until) again Proceeding
  AfterSuccess : (until status : ℕ) (again : Resend) → is_success status ≡ true → RunsInviteClient (Done until status) again Accepted
  AfterFailure : (until status : ℕ) (again : Resend) → is_failure status ≡ true → RunsInviteClient (Done until status) again Completed
  WhenEnded : (again : Resend) → RunsInviteClient Ended again Terminated

-- the timers of the transaction (RFC 3261 17.1.1.2, RFC 6026 7.2)
abbrev pub invite_timers : Phase → Resend → List (Letter × ℕ)
invite_timers (Unheard until) again = (By.A, again.due) ∷ (By.B, until) ∷ []
invite_timers (Heard until) again = []
invite_timers (Cancelled until) again = []
invite_timers (Done until status) again = if is_success status then (By.M, until) ∷ [] else (By.D, until) ∷ []
invite_timers Ended again = []

-- the proxy's own timer of the branch: Timer C, which is set with the INVITE, 153,000 ms past the wait for a first
-- response, and anew by each 101 to 199; then the wait for the final response to an INVITE that was sent CANCEL
-- (RFC 3261 16.6 step 11, 16.7 step 2, 9.1)
abbrev pub call_timers : Phase → List (Letter × ℕ)
call_timers (Unheard until) = (By.C, until + 153000) ∷ []
call_timers (Heard until) = (By.C, until) ∷ []
call_timers (Cancelled until) = (By.Cancelled, until) ∷ []
call_timers (Done until status) = []
call_timers Ended = []

-- ---- what is done

-- at a provisional response: it goes to the core while there is no final one
abbrev pub heard_actions : Phase → List ClientAction
heard_actions phase = if is_final phase then [] else Up Response ∷ []

-- at the first final response: a 300 to 699 is acknowledged, and Timer D or M set
abbrev pub final_actions : ℕ → List ClientAction
final_actions status = if is_failure status then Ack ∷ Up Response ∷ Start By.D 32000 ∷ [] else Up Response ∷ Start By.M 32000 ∷ []

-- at a further final response: a 2xx after a 2xx goes to the core, and a 300 to 699 after one gets its ACK again
abbrev pub further_actions : Phase → ℕ → List ClientAction
further_actions (Done until first) status =
    if is_success first then (if is_success status then Up Response ∷ [] else [])
    else if is_failure status then AckAgain ∷ [] else []
further_actions (Unheard until) status = []
further_actions (Heard until) status = []
further_actions (Cancelled until) status = []
further_actions Ended status = []

-- an action that hands something up to the core
abbrev pub hands_up : ClientAction → Bool
hands_up (Up report) = true
hands_up _ = false

-- an action that sends an ACK for the first time
abbrev pub acknowledges : ClientAction → Bool
acknowledges Ack = true
acknowledges _ = false
