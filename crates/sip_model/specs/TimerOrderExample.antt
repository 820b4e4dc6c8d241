-- A call of which four timers are due at one moment.
use Rattle.std.specs.Prelude.{ℕ, ◌==◌, List, [], ◌∷◌, filter, codes}
use Rattle.sip_timers.specs.declared.letter.Letter.{Letter}
use Rattle.sip_timers.specs.declared.timer.Owner.{Owner}
use Rattle.model_steps.specs.state.declared.proxy_state.ProxyState.{ProxyState}
use Rattle.model_steps.specs.Examples.{arriving_at, calling, cancel_request, hearing, ringing_from, whole_effect}
use Rattle.model_transactions.specs.Queue.{Entry, entries_of, queue_after}

-- an INVITE goes to two bindings
abbrev pub called : ProxyState
called = (calling (codes "5082" ∷ codes "5083" ∷ [])).state

-- the first rings
abbrev pub rung : ProxyState
rung = (hearing called 62000 (ringing_from 1)).state

-- the caller cancels; all in one millisecond
abbrev pub cancelled : ProxyState
cancelled = (whole_effect rung (arriving_at 6 62000 5070) cancel_request).state

-- a timer that is due 32 seconds later
abbrev pub then_due : ℕ → Owner → Letter → Entry
then_due number owner letter = record { due = 94000; name = record { request = number; owner = owner; letter = letter } }

-- the timers that stand then, in the order in which they fire
abbrev pub queue_then : List Entry
queue_then = queue_after (queue_after (queue_after [] (entries_of called.requests)) (entries_of rung.requests)) (entries_of cancelled.requests)

-- those that are due 32 seconds later
abbrev pub all_then : List Entry
all_then = filter (λ e. e.due == 94000) queue_then
