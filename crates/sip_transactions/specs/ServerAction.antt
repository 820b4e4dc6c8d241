-- What the actions of a server transaction start and send.
use Rattle.std.specs.Prelude.{ℕ, Bool, true, false, List, [], ◌∷◌, Option, Some, None}
use Rattle.sip_timers.specs.declared.letter.Letter.{Letter}
use Rattle.sip_transactions.specs.declared.server_actions.ServerAction.{ServerAction}
use Rattle.sip_transactions.specs.declared.server_actions.ServerAction.TheVariants.{Send, SendAgain, Start}

-- the timer that an action starts, and after how many milliseconds it fires
abbrev pub start_of : ServerAction → Option (Letter × ℕ)
start_of (Start letter ms) = Some (letter, ms)
start_of _ = None

-- an action that sends an answer
abbrev pub sends_answer : ServerAction → Bool
sends_answer Send = true
sends_answer SendAgain = true
sends_answer _ = false

-- an action that sends the last answer again
abbrev pub sends_again : ServerAction → Bool
sends_again SendAgain = true
sends_again _ = false

-- what is done for a copy of the request, by whether the last answer goes to it again (RFC 3261 17.2.1, 17.2.2)
abbrev pub copy_actions : Bool → List ServerAction
copy_actions true = SendAgain ∷ []
copy_actions false = []
