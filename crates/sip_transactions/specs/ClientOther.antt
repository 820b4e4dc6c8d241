-- The client transaction of a request that isn't an INVITE: RFC 3261 17.1.2 and figure 6. Times are in
-- milliseconds.
use Rattle.std.specs.Prelude.{ℕ, ◌*◌, min, Bool, true, false, ◌&&◌, nat_le, if◌then◌else◌, List, [], ◌∷◌, Option, Some, None}
use Rattle.sip_timers.specs.Intervals.{T1, T2, T4}
use Rattle.sip_timers.specs.Machine.{Machine}
use Rattle.sip_timers.specs.declared.letter.Letter.{Letter}
use Rattle.sip_transactions.specs.ClientAction.{start_of, sends_request}
use Rattle.sip_transactions.specs.declared.client_actions.ClientAction.{ClientAction}
use Rattle.sip_transactions.specs.declared.client_actions.ClientAction.TheVariants.{Send, SendAgain, Up, Start}
use Rattle.sip_transactions.specs.declared.client_actions.Report.TheVariants.{Response, Timeout, Unavailable}
use Rattle.sip_timers.specs.declared.letter.Letter.TheVariants.{E, F, K}
use Rattle.sip_transactions.specs.declared.client_other.ClientOther.{ClientOther}
use Rattle.sip_transactions.specs.declared.client_other.ClientOther.TheVariants.{Trying, Proceeding, Completed, Terminated}
use Rattle.sip_transactions.specs.declared.client_other.ClientOtherInput.{ClientOtherInput}
use Rattle.sip_transactions.specs.declared.client_other.ClientOtherInput.TheVariants.{Received, Fired, Fault}

-- what the figure tells apart
pub data Heard : Type 0 where
  provisional : Heard
  final : Heard
  fired : Letter → Heard
  fault : Heard
  other : Heard

-- responses by their status (RFC 3261 7.2)
abbrev pub heard : ClientOtherInput → Heard
heard (Received status) =
    if nat_le 100 status && nat_le status 199 then provisional
    else if nat_le 200 status && nat_le status 699 then final
    else other
heard (Fired letter) = fired letter
heard Fault = fault

-- a request that is sent for the first time
abbrev pub start : ClientOther × List ClientAction
start = (Trying T1, Send ∷ Start E T1 ∷ Start F (64 * T1) ∷ [])

-- the rows of the figure; what has no row changes nothing
-- `Trying e`: E was last set to e. In this project's profile a fault of a sending counts only while no
-- response came.
abbrev pub row : ClientOther → Heard → ClientOther × List ClientAction
row (Trying e) (fired E) = let next = min (2 * e) T2 in (Trying next, SendAgain ∷ Start E next ∷ [])
row (Trying e) fault = (Terminated, Up Unavailable ∷ [])
row (Trying e) provisional = (Proceeding, Up Response ∷ [])
row Proceeding (fired E) = (Proceeding, SendAgain ∷ Start E T2 ∷ [])
row Proceeding provisional = (Proceeding, Up Response ∷ [])
row (Trying e) (fired F) = (Terminated, Up Timeout ∷ [])
row Proceeding (fired F) = (Terminated, Up Timeout ∷ [])
row (Trying e) final = (Completed, Up Response ∷ Start K T4 ∷ [])
row Proceeding final = (Completed, Up Response ∷ Start K T4 ∷ [])
row Completed (fired K) = (Terminated, [])
row state _ = (state, [])

-- the next state, and what is to be done
abbrev pub client_other : ClientOther → ClientOtherInput → ClientOther × List ClientAction
client_other state input = row state (heard input)

-- the timers that run in a state; another is stopped when the state is entered
abbrev pub runs : ClientOther → Letter → Bool
runs (Trying e) E = true
runs (Trying e) F = true
runs Proceeding E = true
runs Proceeding F = true
runs Completed K = true
runs _ _ = false

-- the machine of these
abbrev pub other_machine : Machine ClientOther ClientOtherInput ClientAction
other_machine = record { on = client_other; fired = Fired; runs = runs; start_of = start_of; sends = sends_request }

-- what Timer E was last set to, which a state without a response holds; once one came, the wait is the
-- longest (RFC 3261 17.1.2.2)
abbrev pub wait_e : ClientOther → Option ℕ
wait_e (Trying e) = Some e
wait_e _ = None
