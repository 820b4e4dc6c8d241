-- A link over memory: what it hears, what it was given, and at which calls it fails.
use Rattle.std.specs.Prelude.{◌≡◌, ℕ, ◌+◌, zero, suc, nat_eq, nat_lt, Bool, true, false, ◌||◌, not, List, [], ◌∷◌, ◌++◌, length, Option, None, Some, Result}
use Rattle.std.specs.Prelude.{Ok, Err, if◌then◌else◌}
use Rattle.std.specs.List.{list_any}
use Rattle.sip_transport.specs.Told.{most, counted}
use Rattle.sip_transport.specs.declared.datagram.Instead.{Instead}
use Rattle.sip_transport.specs.declared.datagram.Instead.TheVariants.{AskedAgain, HeardNothing}
use Rattle.sip_transport.specs.declared.datagram.HeardDatagram.{HeardDatagram}
use Rattle.sip_transport.specs.declared.datagram.Given.{Given}
use Rattle.sip_transport.specs.declared.datagram.LinkFault.{LinkFault}
use Rattle.sip_transport.specs.declared.datagram.SendOutcome.{SendOutcome}
use Rattle.sip_transport.specs.declared.datagram.SendOutcome.TheVariants.{Went, Failed}
use Rattle.sip_transport.specs.declared.posted.Posted.{Posted}
use Rattle.sip_uri.specs.declared.addr.Addr.{Addr}

-- what a link over memory is seen as: the datagrams that it is yet to hear; what each receive that didn't fail heard, but
-- for what was set aside; whether it heard a datagram last; what was set aside; what it was given; the bytes of the datagram that it heard last; how many receives there
-- were, and how many of them failed; the
-- numbers, from 1, of the receives and of the sends that fail; and how many milliseconds it was let wait, time by time, while there
-- was memory to tell it
pub record MemoryState : Type 0 where
  pub waiting : List HeardDatagram
  pub heard : List (Option HeardDatagram)
  pub fresh : Bool
  pub aside : List HeardDatagram
  pub given : List Given
  pub held : List ℕ
  pub receives : ℕ
  pub failures : ℕ
  pub receive_fails : List ℕ
  pub send_fails : List ℕ
  pub waits : Option (List ℕ)

-- whether the next receive fails: its number is among those, or can't be counted
abbrev pub next_receive_fails : MemoryState → Bool
next_receive_fails link = not (nat_lt link.receives most) || list_any (λ number. nat_eq number (link.receives + 1)) link.receive_fails

-- whether the next send fails: its number is among those
abbrev pub next_send_fails : MemoryState → Bool
next_send_fails link = list_any (λ number. nat_eq number (length link.given + 1)) link.send_fails

-- how the next send goes
abbrev pub next_sending : MemoryState → SendOutcome
next_sending link = if next_send_fails link then Failed else Went

-- the source of the first of the datagrams that are yet to be heard
abbrev pub first_from : List HeardDatagram → Option Addr
first_from [] = None
first_from (datagram ∷ rest) = Some datagram.from

-- what the next receive answers
abbrev pub next_answer : MemoryState → Result (Option Addr) LinkFault
next_answer link = if next_receive_fails link then Err (record {}) else Ok (first_from link.waiting)

-- a link that hears the first of these datagrams, or nothing
abbrev pub hearing : List HeardDatagram → MemoryState → MemoryState
hearing [] link = record link { heard = link.heard ++ None ∷ []; fresh = false }
hearing (datagram ∷ rest) link = record link { waiting = rest; heard = link.heard ++ Some datagram ∷ []; fresh = true; held = datagram.bytes }

-- a link behind its next receive
abbrev pub received : MemoryState → MemoryState
received link =
    if next_receive_fails link
    then record link { receives = counted link.receives; failures = counted link.failures }
    else record (hearing link.waiting link) { receives = counted link.receives }

-- the datagram, before which so many receives heard nothing
abbrev pub datagram_of : Posted → HeardDatagram
datagram_of posted = posted.datagram

-- so many receives that heard nothing
abbrev pub nothings : ℕ → List (Option HeardDatagram)
nothings zero = []
nothings (suc n) = None ∷ nothings n

-- how many receives heard nothing behind a datagram that was set aside
abbrev pub silence_of : Instead → ℕ
silence_of AskedAgain = 0
silence_of HeardNothing = 1

-- what was heard of a datagram, and what was set aside, where it was set aside or wasn't
abbrev pub heard_one : Bool → HeardDatagram → List (Option HeardDatagram)
heard_one true datagram = []
heard_one false datagram = Some datagram ∷ []

abbrev pub aside_one : Bool → HeardDatagram → List HeardDatagram
aside_one true datagram = datagram ∷ []
aside_one false datagram = []

-- what was heard up to the last of these, but for what was set aside
abbrev pub heard_by : List Posted → List (Option HeardDatagram)
heard_by [] = []
heard_by (posted ∷ rest) = (nothings posted.silent ++ heard_one posted.is_aside posted.datagram) ++ heard_by rest

-- what of these was set aside
abbrev pub aside_by : List Posted → List HeardDatagram
aside_by [] = []
aside_by (posted ∷ rest) = aside_one posted.is_aside posted.datagram ++ aside_by rest

-- the last of so many of these wasn't set aside
abbrev pub IsFresh : List Posted → ℕ → Type 0
IsFresh [] count = ⊥
IsFresh (posted ∷ rest) zero = ⊥
IsFresh (posted ∷ rest) (suc zero) = posted.is_aside ≡ false
IsFresh (posted ∷ rest) (suc (suc count)) = IsFresh rest (suc count)

-- the bytes of the last of these, or none
abbrev pub last_bytes : List ℕ → List Posted → List ℕ
last_bytes none [] = none
last_bytes none (posted ∷ rest) = last_bytes posted.datagram.bytes rest
