-- The client transaction that runs a branch of a request that isn't an INVITE, or a CANCEL, and how it fits the
-- branch (RFC 3261 17.1.2).
use Rattle.std.specs.Prelude.{ℕ, ◌+◌, if◌then◌else◌, List, [], ◌∷◌}
use Rattle.sip_timers.specs.declared.letter.Letter.{Letter}
use Rattle.sip_timers.specs.declared.letter.Letter.TheVariants as By
use Rattle.sip_transactions.specs.declared.client_actions.ClientAction.{ClientAction}
use Rattle.sip_transactions.specs.declared.client_actions.ClientAction.TheVariants.{Up}
use Rattle.sip_transactions.specs.declared.client_actions.Report.TheVariants.{Response}
use Rattle.sip_transactions.specs.declared.client_other.ClientOther.{ClientOther}
use Rattle.sip_transactions.specs.declared.client_other.ClientOther.TheVariants.{Trying, Proceeding, Completed, Terminated}
use Rattle.sip_context_branches.specs.state.declared.branch.Phase.{Phase}
use Rattle.sip_context_branches.specs.state.declared.branch.Phase.TheVariants.{Unheard, Heard, Cancelled, Done, Ended}
use Rattle.sip_context_branches.specs.state.declared.resend.Resend.{Resend}
use Rattle.sip_context_branches.specs.state.State.{is_final}

-- The state of the transaction in a phase of its branch, whose request goes again then: while no response came,
-- it holds the wait before that. No such branch is sent a CANCEL.
pub data RunsOtherClient : Phase → Resend → ClientOther → Type 0 where
  WhileUnheard : (until : ℕ) (again : Resend) → RunsOtherClient (Unheard until) again (Trying again.wait)
  WhileHeard : (until : ℕ) (again : Resend) → RunsOtherClient (Heard until) again Proceeding
  AfterFinal : (until status : ℕ) (again : Resend) → RunsOtherClient (Done until status) again Completed
  WhenEnded : (again : Resend) → RunsOtherClient Ended again Terminated

-- the timers of the transaction (RFC 3261 17.1.2.2)
abbrev pub other_timers : Phase → Resend → List (Letter × ℕ)
other_timers (Unheard until) again = (By.E, again.due) ∷ (By.F, until) ∷ []
other_timers (Heard until) again = (By.E, again.due) ∷ (By.F, until) ∷ []
other_timers (Cancelled until) again = []
other_timers (Done until status) again = (By.K, until) ∷ []
other_timers Ended again = []

-- what is done at a provisional response: it goes to the core while there is no final one
abbrev pub heard_actions : Phase → List ClientAction
heard_actions phase = if is_final phase then [] else Up Response ∷ []

-- once a response came, what was sent goes again after 4,000 ms (RFC 3261 17.1.2.2)
abbrev pub steady : Resend → Resend
steady again = record { due = again.due + 4000; wait = 4000 }
