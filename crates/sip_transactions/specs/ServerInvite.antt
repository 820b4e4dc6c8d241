-- The server transaction of an INVITE: RFC 3261 17.2.1 and figure 7, with the Accepted state of RFC 6026
-- 7.1. Times are in milliseconds.
use Rattle.std.specs.Prelude.{ℕ, ◌*◌, min, Bool, true, false, ◌&&◌, nat_le, if◌then◌else◌, List, [], ◌∷◌, Option, Some, None}
use Rattle.sip_timers.specs.Intervals.{T1, T2, T4}
use Rattle.sip_timers.specs.Machine.{Machine}
use Rattle.sip_timers.specs.declared.letter.Letter.{Letter}
use Rattle.sip_transactions.specs.ServerAction.{start_of, sends_answer}
use Rattle.sip_transactions.specs.declared.server_actions.ServerAction.{ServerAction}
use Rattle.sip_transactions.specs.declared.server_actions.ServerAction.TheVariants.{Send, SendAgain, Up, Start}
use Rattle.sip_timers.specs.declared.letter.Letter.TheVariants.{G, H, I, L}
use Rattle.sip_transactions.specs.declared.server_invite.ServerInvite.{ServerInvite}
use Rattle.sip_transactions.specs.declared.server_invite.ServerInvite.TheVariants.{Proceeding, Completed, Confirmed, Accepted, Terminated}
use Rattle.sip_transactions.specs.declared.server_invite.ServerInviteInput.{ServerInviteInput}
use Rattle.sip_transactions.specs.declared.server_invite.ServerInviteInput.TheVariants.{Invite, Ack, Answer, Fired}

-- what the figures tell apart
pub data Heard : Type 0 where
  invite : Heard
  ack : Heard
  provisional : Heard
  success : Heard
  failure : Heard
  fired : Letter → Heard
  other : Heard

-- the core's answers by their status (RFC 3261 7.2)
abbrev pub heard : ServerInviteInput → Heard
heard Invite = invite
heard Ack = ack
heard (Answer status) =
    if nat_le 100 status && nat_le status 199 then provisional
    else if nat_le 200 status && nat_le status 299 then success
    else if nat_le 300 status && nat_le status 699 then failure
    else other
heard (Fired letter) = fired letter

-- the rows of the figures; what has no row changes nothing
-- `Proceeding true`: the core has answered 100 to 199; `Completed g`: G was last set to g. In this project's
-- profile nobody is told when H fires, and a fault of a sending changes nothing.
abbrev pub row : ServerInvite → Heard → ServerInvite × List ServerAction
row (Proceeding true) invite = (Proceeding true, SendAgain ∷ [])
row (Proceeding answered) provisional = (Proceeding true, Send ∷ [])
row (Proceeding answered) success = (Accepted, Send ∷ Start L (64 * T1) ∷ [])
row (Proceeding answered) failure = (Completed T1, Send ∷ Start G T1 ∷ Start H (64 * T1) ∷ [])
row (Completed g) invite = (Completed g, SendAgain ∷ [])
row (Completed g) (fired G) = let next = min (2 * g) T2 in (Completed next, SendAgain ∷ Start G next ∷ [])
row (Completed g) ack = (Confirmed, Start I T4 ∷ [])
row (Completed g) (fired H) = (Terminated, [])
row Confirmed (fired I) = (Terminated, [])
row Accepted success = (Accepted, Send ∷ [])
row Accepted ack = (Accepted, Up ∷ [])
row Accepted (fired L) = (Terminated, [])
row state _ = (state, [])

-- the next state, and what is to be done
abbrev pub server_invite : ServerInvite → ServerInviteInput → ServerInvite × List ServerAction
server_invite state input = row state (heard input)

-- the timers that run in a state; another is stopped when the state is entered
abbrev pub runs : ServerInvite → Letter → Bool
runs (Completed g) G = true
runs (Completed g) H = true
runs Confirmed I = true
runs Accepted L = true
runs _ _ = false

-- the machine of these
abbrev pub invite_machine : Machine ServerInvite ServerInviteInput ServerAction
invite_machine = record { on = server_invite; fired = Fired; runs = runs; start_of = start_of; sends = sends_answer }

-- what Timer G was last set to, which the state holds in which it runs (RFC 3261 17.2.1)
abbrev pub wait_g : ServerInvite → Option ℕ
wait_g (Completed g) = Some g
wait_g _ = None

-- whether a copy of the INVITE gets the last answer again: one of 100 to 199, or 300 to 699 until the ACK, but
-- no 2xx (RFC 3261 17.2.1; RFC 6026 7.1)
abbrev pub answers_copy : ServerInvite → Bool
answers_copy (Proceeding answered) = answered
answers_copy (Completed g) = true
answers_copy Confirmed = false
answers_copy Accepted = false
answers_copy Terminated = false
