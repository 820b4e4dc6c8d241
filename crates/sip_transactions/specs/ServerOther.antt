-- The server transaction of a request that isn't an INVITE: RFC 3261 17.2.2 and figure 8. Times are in
-- milliseconds.
use Rattle.std.specs.Prelude.{◌*◌, ℕ, ◌+◌, Bool, true, false, ◌&&◌, nat_le, if◌then◌else◌, List, [], ◌∷◌}
use Rattle.sip_timers.specs.Intervals.{T1}
use Rattle.sip_timers.specs.Machine.{Machine}
use Rattle.sip_timers.specs.declared.letter.Letter.{Letter}
use Rattle.sip_transactions.specs.ServerAction.{start_of, sends_answer}
use Rattle.sip_transactions.specs.declared.server_actions.ServerAction.{ServerAction}
use Rattle.sip_transactions.specs.declared.server_actions.ServerAction.TheVariants.{Send, SendAgain, Start}
use Rattle.sip_timers.specs.declared.letter.Letter.TheVariants.{J}
use Rattle.sip_transactions.specs.declared.server_other.ServerOther.{ServerOther}
use Rattle.sip_transactions.specs.declared.server_other.ServerOther.TheVariants.{Trying, Proceeding, Completed, Terminated}
use Rattle.sip_transactions.specs.declared.server_other.ServerOtherInput.{ServerOtherInput}
use Rattle.sip_transactions.specs.declared.server_other.ServerOtherInput.TheVariants.{Request, Answer, Fired}

-- what the figure tells apart
pub data Heard : Type 0 where
  request : Heard
  provisional : Heard
  final : Heard
  fired : Letter → Heard
  other : Heard

-- the core's answers by their status (RFC 3261 7.2), of which the figure has no 100
abbrev pub heard : ServerOtherInput → Heard
heard Request = request
heard (Answer status) =
    if nat_le 101 status && nat_le status 199 then provisional
    else if nat_le 200 status && nat_le status 699 then final
    else other
heard (Fired letter) = fired letter

-- the rows of the figure; what has no row changes nothing, nor does a fault of a sending (this project's
-- profile)
abbrev pub row : ServerOther → Heard → ServerOther × List ServerAction
row Trying provisional = (Proceeding, Send ∷ [])
row Proceeding provisional = (Proceeding, Send ∷ [])
row Proceeding request = (Proceeding, SendAgain ∷ [])
row Trying final = (Completed, Send ∷ Start J (64 * T1) ∷ [])
row Proceeding final = (Completed, Send ∷ Start J (64 * T1) ∷ [])
row Completed request = (Completed, SendAgain ∷ [])
row Completed (fired J) = (Terminated, [])
row state _ = (state, [])

-- the next state, and what is to be done
abbrev pub server_other : ServerOther → ServerOtherInput → ServerOther × List ServerAction
server_other state input = row state (heard input)

-- the timers that run in a state; another is stopped when the state is entered
abbrev pub runs : ServerOther → Letter → Bool
runs Completed J = true
runs _ _ = false

-- the machine of these
abbrev pub other_machine : Machine ServerOther ServerOtherInput ServerAction
other_machine = record { on = server_other; fired = Fired; runs = runs; start_of = start_of; sends = sends_answer }

-- 1 where a final answer is sent for the first time
abbrev pub final_sent : Heard → List ServerAction → ℕ
final_sent final (Send ∷ actions) = 1
final_sent _ _ = 0

-- how many final answers are sent over these inputs, retransmissions aside
abbrev pub finals_sent : ServerOther → List ServerOtherInput → ℕ
finals_sent state [] = 0
finals_sent state (input ∷ inputs) =
    let next = server_other state input in
    final_sent (heard input) next.1 + finals_sent next.0 inputs

-- whether a copy of the request gets the last answer again: once there is one, until the transaction is over
-- (RFC 3261 17.2.2)
abbrev pub answers_copy : ServerOther → Bool
answers_copy Trying = false
answers_copy Proceeding = true
answers_copy Completed = true
answers_copy Terminated = false
