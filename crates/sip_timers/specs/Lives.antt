-- Whole lives of a machine, computed from its table alone.
use Rattle.std.specs.Prelude.{ℕ, zero, suc, ◌+◌, nat_lt, if◌then◌else◌, List, [], ◌∷◌, filter, Option, Some, None}
use Rattle.std.specs.List.{list_any}
use Rattle.sip_timers.specs.Machine.{Machine}
use Rattle.sip_timers.specs.declared.letter.Letter.{Letter}

-- the states that a machine comes to and what is done at each, over the inputs that it hears
abbrev pub life : {State Input Action : Type 0} → Machine State Input Action → State → List Input → List (State × List Action)
life m state [] = []
life m state (input ∷ inputs) = let next = m.on state input in next ∷ life m next.0 inputs

-- a timer among those that run, with their moments, in the order in which they fire
abbrev pub placed : ℕ → Letter → List (ℕ × Letter) → List (ℕ × Letter)
placed due letter [] = (due, letter) ∷ []
placed due letter (first ∷ rest) =
    if nat_lt due first.0 then (due, letter) ∷ first ∷ rest else first ∷ placed due letter rest

-- the timers that run once a start is done at a moment
abbrev pub set_at : ℕ → Option (Letter × ℕ) → List (ℕ × Letter) → List (ℕ × Letter)
set_at now None timers = timers
set_at now (Some start) timers = placed (now + start.1) start.0 timers

-- the timers that run once these actions are done at a moment
abbrev pub set_by : {State Input Action : Type 0} → Machine State Input Action → ℕ → List Action → List (ℕ × Letter) → List (ℕ × Letter)
set_by m now [] timers = timers
set_by m now (action ∷ actions) timers = set_by m now actions (set_at now (m.start_of action) timers)

-- the next `count` firings, each with its moment, the state after it and what is done
abbrev pub firings : {State Input Action : Type 0} → Machine State Input Action → ℕ → State → List (ℕ × Letter) → List (ℕ × State × List Action)
firings m zero state timers = []
firings m (suc count) state [] = []
firings m (suc count) state ((now, letter) ∷ timers) =
    let next = m.on state (m.fired letter) in
    (now, next.0, next.1) ∷ firings m count next.0 (set_by m now next.1 (filter (λ t. m.runs next.0 t.1) timers))

-- a step at the moment 0, and the next `count` firings, where nothing but timers is heard
abbrev pub left_alone : {State Input Action : Type 0} → Machine State Input Action → ℕ → State × List Action → List (ℕ × State × List Action)
left_alone m count step = (0, step.0, step.1) ∷ firings m count step.0 (set_by m 0 step.1 [])

-- the moments at which the transaction's own message is sent
abbrev pub sends : {State Input Action : Type 0} → Machine State Input Action → List (ℕ × State × List Action) → List ℕ
sends m [] = []
sends m ((now, state, actions) ∷ rest) = if list_any m.sends actions then now ∷ sends m rest else sends m rest
