-- A step of a transaction machine that runs a part of an open request (RFC 3261 17). The timers of a part are seen
-- as a list: the letter of each, and the moment at which it is due, in milliseconds.
use Rattle.std.specs.Prelude.{ℕ, ◌≡◌, ◌+◌, List, ◌++◌, map, filter}
use Rattle.std.specs.List.{filter_map}
use Rattle.sip_timers.specs.Machine.{Machine}
use Rattle.sip_timers.specs.declared.letter.Letter.{Letter}

-- the timers that are started at a moment, each with the milliseconds after which it fires
abbrev pub started_at : ℕ → List (Letter × ℕ) → List (Letter × ℕ)
started_at now starts = map (λ s. (s.0, now + s.1)) starts

-- the timers that stand after a step at a moment: those that it starts, then those that stood and run in the next
-- state; the others are stopped
abbrev pub timers_after : {State Input Action : Type 0} → Machine State Input Action → ℕ → State × List Action → List (Letter × ℕ) → List (Letter × ℕ)
timers_after m now next timers = started_at now (filter_map m.start_of next.1) ++ filter (λ t. m.runs next.0 t.0) timers

-- A step of a machine at a moment does what the event does to the part that the machine runs: the next state fits
-- the part after the event; this is done, and nothing else; and of the timers that stood, with those that are
-- started, exactly those stand that the part then has.
pub record Steps {State Input Action : Type 0} (m : Machine State Input Action) (now : ℕ) (next : State × List Action)
    (Fits : State → Type 0) (actions : List Action) (before after : List (Letter × ℕ)) : Type 0 where
  pub fits : Fits next.0
  pub does : next.1 ≡ actions
  pub timers : after ≡ timers_after m now next before
