-- What a machine sends again by time (RFC 3261 17.1.1.2, 17.1.2.2, 17.2.1).
use Rattle.std.specs.Prelude.{ℕ, ◌*◌, min, ◌≡◌, ◌⊎◌, true, false, List, [], ◌∷◌, Option, Some, None}
use Rattle.std.specs.List.{list_any, filter_map}
use Rattle.sip_timers.specs.Intervals.{T1}
use Rattle.sip_timers.specs.Machine.{Machine, Starts}
use Rattle.sip_timers.specs.declared.letter.Letter.{Letter}

-- one of the actions starts the timer with so many milliseconds
abbrev pub StartsWith : {State Input Action : Type 0} → Machine State Input Action → List Action → Letter → ℕ → Type 0
StartsWith m [] letter ms = ⊥
StartsWith m (action ∷ actions) letter ms = (m.start_of action ≡ Some (letter, ms)) ⊎ StartsWith m actions letter ms

-- the next wait: twice the one that a state holds, but at most this long, or this long where it holds none
-- (RFC 3261 17.1.1.2, 17.1.2.2, 17.2.1)
abbrev pub wait_after : ℕ → Option ℕ → ℕ
wait_after most (Some wait) = min (2 * wait) most
wait_after most None = most

-- The message is sent for the first time: the timer starts with 500 ms, which the state holds (RFC 3261
-- 17.1.1.2, 17.1.2.2, 17.2.1).
pub record Begins {State Input Action : Type 0} (m : Machine State Input Action) (letter : Letter) (wait : State → Option ℕ)
    (step : State × List Action) : Type 0 where
  pub sent : list_any m.sends step.1 ≡ true
  pub set : StartsWith m step.1 letter T1
  pub held : wait step.0 ≡ Some T1

-- A timer by which the transaction's own message goes again, after a wait that is at most so long, where a
-- state holds what the timer was last set to, or nothing (RFC 3261 17.1.1.2, 17.1.2.2, 17.2.1): it first
-- runs where the message is first sent (`first`); where it runs and fires, the message is sent (`sent`), and
-- this timer alone starts, with the next wait (`anew`); where it runs, nothing else starts it, so nothing
-- moves its moment (`alone`); the wait that a state holds is what the timer is started with (`held`), or what
-- the state before it held (`kept`); no other firing sends the message (`only`)
pub record SendsAgainBy {State Input Action : Type 0} (m : Machine State Input Action) (letter : Letter) (wait : State → Option ℕ)
    (most : ℕ) : Type 0 where
  pub first : (state : State) (input : Input) → m.runs state letter ≡ false → m.runs (m.on state input).0 letter ≡ true
      → Begins m letter wait (m.on state input)
  pub sent : (state : State) → m.runs state letter ≡ true → list_any m.sends (m.on state (m.fired letter)).1 ≡ true
  pub anew : (state : State) → m.runs state letter ≡ true → filter_map m.start_of (m.on state (m.fired letter)).1
      ≡ (letter, wait_after most (wait state)) ∷ []
  pub alone : (state : State) (input : Input) → m.runs state letter ≡ true → Starts m (m.on state input).1 letter → input ≡ m.fired letter
  pub held : (state : State) (input : Input) (ms next : ℕ) → StartsWith m (m.on state input).1 letter ms → wait (m.on state input).0
      ≡ Some next → next ≡ ms
  pub kept : (state : State) (input : Input) (next : ℕ) → wait (m.on state input).0 ≡ Some next → (wait state ≡ Some next)
      ⊎ Starts m (m.on state input).1 letter
  pub only : (state : State) (other : Letter) → list_any m.sends (m.on state (m.fired other)).1 ≡ true → (other ≡ letter)
      × (m.runs state letter ≡ true)

-- no timer's firing sends the message: the transaction of a request that isn't an INVITE answers only what
-- it hears (RFC 3261 17.2.2)
abbrev pub NoneSendsByTime : {State Input Action : Type 0} → Machine State Input Action → Type 0
NoneSendsByTime {State = State} m = (state : State) (letter : Letter) → list_any m.sends (m.on state (m.fired letter)).1 ≡ false

-- nothing that is heard but this timer's firing sends the message (RFC 3261 17.1.1.2, 17.1.2.2)
abbrev pub SendsOnlyBy : {State Input Action : Type 0} → Machine State Input Action → Letter → Type 0
SendsOnlyBy {State = State} {Input = Input} m letter = (state : State) (input : Input) → list_any m.sends (m.on state input).1 ≡ true
    → input ≡ m.fired letter
