-- What the actions of a client transaction start and send.
use Rattle.std.specs.Prelude.{ℕ, Bool, true, false, Option, Some, None}
use Rattle.sip_timers.specs.declared.letter.Letter.{Letter}
use Rattle.sip_transactions.specs.declared.client_actions.ClientAction.{ClientAction}
use Rattle.sip_transactions.specs.declared.client_actions.ClientAction.TheVariants.{Send, SendAgain, AckAgain, Start}

-- the timer that an action starts, and after how many milliseconds it fires
abbrev pub start_of : ClientAction → Option (Letter × ℕ)
start_of (Start letter ms) = Some (letter, ms)
start_of _ = None

-- an action that sends the request
abbrev pub sends_request : ClientAction → Bool
sends_request Send = true
sends_request SendAgain = true
sends_request _ = false

-- an action that sends the ACK again (RFC 3261 17.1.1.2)
abbrev pub acks_again : ClientAction → Bool
acks_again AckAgain = true
acks_again _ = false
