-- The client transaction of an INVITE: RFC 3261 17.1.1 and figure 5, with the Accepted state of RFC 6026
-- 7.2. Times are in milliseconds.
use Rattle.std.specs.Prelude.{ℕ, ◌≤◌, ◌*◌, min, Bool, true, false, ◌&&◌, nat_le, if◌then◌else◌, List, [], ◌∷◌, Option, Some, None}
use Rattle.sip_timers.specs.Intervals.{T1}
use Rattle.sip_timers.specs.Machine.{Machine}
use Rattle.sip_timers.specs.declared.letter.Letter.{Letter}
use Rattle.sip_transactions.specs.ClientAction.{start_of, sends_request}
use Rattle.sip_transactions.specs.declared.client_actions.ClientAction.{ClientAction}
use Rattle.sip_transactions.specs.declared.client_actions.ClientAction.TheVariants.{Send, SendAgain, Ack, AckAgain, Up, Start}
use Rattle.sip_transactions.specs.declared.client_actions.Report.TheVariants.{Response, Timeout, Unavailable}
use Rattle.sip_timers.specs.declared.letter.Letter.TheVariants.{A, B, D, M}
use Rattle.sip_transactions.specs.declared.client_invite.ClientInvite.{ClientInvite}
use Rattle.sip_transactions.specs.declared.client_invite.ClientInvite.TheVariants.{Calling, Proceeding, Completed, Accepted, Terminated}
use Rattle.sip_transactions.specs.declared.client_invite.ClientInviteInput.{ClientInviteInput}
use Rattle.sip_transactions.specs.declared.client_invite.ClientInviteInput.TheVariants.{Received, Fired, Fault, GivenUp}

-- what the figures tell apart
pub data Heard : Type 0 where
  provisional : Heard
  success : Heard
  failure : Heard
  fired : Letter → Heard
  fault : Heard
  given_up : Heard
  other : Heard

-- responses by their status (RFC 3261 7.2)
abbrev pub heard : ClientInviteInput → Heard
heard (Received status) =
    if nat_le 100 status && nat_le status 199 then provisional
    else if nat_le 200 status && nat_le status 299 then success
    else if nat_le 300 status && nat_le status 699 then failure
    else other
heard (Fired letter) = fired letter
heard Fault = fault
heard GivenUp = given_up

-- an INVITE that is sent for the first time
abbrev pub start : ClientInvite × List ClientAction
start = (Calling T1, Send ∷ Start A T1 ∷ Start B (64 * T1) ∷ [])

-- the rows of the figures; what has no row changes nothing
-- `Calling a`: A was last set to a. `given_up`: the core ends the wait for a final response to an INVITE that
-- it has cancelled (RFC 3261 9.1). In this project's profile A is at most 32,000, and a fault of a sending
-- counts only while no response came.
abbrev pub row : ClientInvite → Heard → ClientInvite × List ClientAction
row (Calling a) (fired A) = let next = min (2 * a) (64 * T1) in (Calling next, SendAgain ∷ Start A next ∷ [])
row (Calling a) (fired B) = (Terminated, Up Timeout ∷ [])
row (Calling a) fault = (Terminated, Up Unavailable ∷ [])
row (Calling a) provisional = (Proceeding, Up Response ∷ [])
row Proceeding provisional = (Proceeding, Up Response ∷ [])
row (Calling a) success = (Accepted, Up Response ∷ Start M (64 * T1) ∷ [])
row Proceeding success = (Accepted, Up Response ∷ Start M (64 * T1) ∷ [])
row (Calling a) failure = (Completed, Ack ∷ Up Response ∷ Start D (64 * T1) ∷ [])
row Proceeding failure = (Completed, Ack ∷ Up Response ∷ Start D (64 * T1) ∷ [])
row Proceeding given_up = (Terminated, [])
row Completed failure = (Completed, AckAgain ∷ [])
row Completed (fired D) = (Terminated, [])
row Accepted success = (Accepted, Up Response ∷ [])
row Accepted (fired M) = (Terminated, [])
row state _ = (state, [])

-- the next state, and what is to be done
abbrev pub client_invite : ClientInvite → ClientInviteInput → ClientInvite × List ClientAction
client_invite state input = row state (heard input)

-- the timers that run in a state; another is stopped when the state is entered
abbrev pub runs : ClientInvite → Letter → Bool
runs (Calling a) A = true
runs (Calling a) B = true
runs Completed D = true
runs Accepted M = true
runs _ _ = false

-- the machine of these
abbrev pub invite_machine : Machine ClientInvite ClientInviteInput ClientAction
invite_machine = record { on = client_invite; fired = Fired; runs = runs; start_of = start_of; sends = sends_request }

-- what Timer A was last set to, which a state without a response holds (RFC 3261 17.1.1.2)
abbrev pub wait_a : ClientInvite → Option ℕ
wait_a (Calling a) = Some a
wait_a _ = None

-- a response of 300 to 699 (RFC 3261 7.2)
abbrev pub IsFailure : ClientInviteInput → Type 0
IsFailure (Received status) = (300 ≤ status) × (status ≤ 699)
IsFailure _ = ⊥
