-- The server transaction of a request that isn't an INVITE, and how it fits the answering side of its open request
-- (RFC 3261 17.2.2).
use Rattle.std.specs.Prelude.{ℕ, ◌≡◌, true, false, if◌then◌else◌, List, [], ◌∷◌, Option, Some, None}
use Rattle.sip_timers.specs.declared.letter.Letter.{Letter}
use Rattle.sip_timers.specs.declared.letter.Letter.TheVariants as By
use Rattle.sip_transactions.specs.declared.server_actions.ServerAction.{ServerAction}
use Rattle.sip_transactions.specs.declared.server_actions.ServerAction.TheVariants.{Send, Start}
use Rattle.sip_transactions.specs.declared.server_other.ServerOther.{ServerOther}
use Rattle.sip_transactions.specs.declared.server_other.ServerOther.TheVariants.{Trying, Proceeding, Completed, Terminated}
use Rattle.sip_context_branches.specs.state.declared.open_request.LastAnswer.{LastAnswer}
use Rattle.sip_context_branches.specs.state.declared.open_request.Side.{Side}
use Rattle.sip_context_branches.specs.state.declared.open_request.Side.TheVariants.{Answering, Closing, Acknowledged, Closed}
use Rattle.sip_context_branches.specs.state.State.{is_provisional}

-- The state of the transaction, by how far the answering side is, and the answer that was sent last. No ACK comes
-- for such a request.
pub data RunsOtherServer : Side → Option LastAnswer → ServerOther → Type 0 where
  BeforeAnswer : RunsOtherServer Answering None Trying
  WhileProvisional : (a : LastAnswer) → is_provisional a.status ≡ true → RunsOtherServer Answering (Some a) Proceeding
  AfterFinal : (until : ℕ) (a : LastAnswer) → is_provisional a.status ≡ false → RunsOtherServer (Closing until) (Some a) Completed
  WhenClosed : (answer : Option LastAnswer) → RunsOtherServer Closed answer Terminated

-- the timer of the transaction (RFC 3261 17.2.2)
abbrev pub other_side_timers : Side → List (Letter × ℕ)
other_side_timers Answering = []
other_side_timers (Closing until) = (By.J, until) ∷ []
other_side_timers (Acknowledged until) = []
other_side_timers Closed = []

-- what is done at an answer of the core: it is sent, and a final one sets Timer J
abbrev pub answer_actions : ℕ → List ServerAction
answer_actions status = if is_provisional status then Send ∷ [] else Send ∷ Start By.J 32000 ∷ []
