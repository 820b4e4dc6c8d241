-- A transaction machine as its table, and what each does with its timers.
use Rattle.std.specs.Prelude.{ℕ, ◌≡◌, ◌⊎◌, Bool, true, List, [], ◌∷◌, Option, Some, None}
use Rattle.sip_timers.specs.declared.letter.Letter.{Letter}

-- `on` gives the next state and what is to be done; `fired` is a timer's firing, as it is heard; `runs` tells
-- the timers that run in a state (another is stopped when the state is entered); `start_of` is the timer that
-- an action starts, with the milliseconds after which it fires; `sends` tells the actions that send the
-- transaction's own message
pub record Machine (State Input Action : Type 0) : Type 0 where
  pub on : State → Input → State × List Action
  pub fired : Letter → Input
  pub runs : State → Letter → Bool
  pub start_of : Action → Option (Letter × ℕ)
  pub sends : Action → Bool

-- an action's start is that of this timer, or the rest holds
abbrev pub IsStartOr : Option (Letter × ℕ) → Letter → Type 0 → Type 0
IsStartOr None letter rest = rest
IsStartOr (Some start) letter rest = (start.0 ≡ letter) ⊎ rest

-- one of the actions starts the timer
abbrev pub Starts : {State Input Action : Type 0} → Machine State Input Action → List Action → Letter → Type 0
Starts m [] letter = ⊥
Starts m (action ∷ actions) letter = IsStartOr (m.start_of action) letter (Starts m actions letter)

-- the timer is one of these
abbrev pub IsOneOf : List Letter → Letter → Type 0
IsOneOf [] letter = ⊥
IsOneOf (first ∷ rest) letter = (first ≡ letter) ⊎ IsOneOf rest letter

-- a timer that runs after a step ran before it, or is started by it (`kept`); one that a step starts runs
-- after it (`started`); one that fires is started anew, or runs no more (`anew`)
pub record KeepsTimers {State Input Action : Type 0} (m : Machine State Input Action) : Type 0 where
  pub kept : (state : State) (input : Input) (letter : Letter) → m.runs (m.on state input).0 letter ≡ true → (m.runs state letter ≡ true)
      ⊎ Starts m (m.on state input).1 letter
  pub started : (state : State) (input : Input) (letter : Letter) → Starts m (m.on state input).1 letter → m.runs (m.on state input).0 letter ≡ true
  pub anew : (state : State) (letter : Letter) → m.runs (m.on state (m.fired letter)).0 letter ≡ true
      → Starts m (m.on state (m.fired letter)).1 letter
