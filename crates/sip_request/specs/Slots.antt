-- The timers of a part of an open request, by their slots.
use Rattle.std.specs.Prelude.{ℕ, ◌<◌, List, [], ◌∷◌, ◌++◌, Option, Some, None}
use Rattle.std.specs.Option.{option_to_list}
use Rattle.sip_timers.specs.declared.letter.Letter.{Letter}
use Rattle.sip_timers.specs.declared.timer.Name.{Name}
use Rattle.sip_timers.specs.declared.timer.Owner.{Owner}
use Rattle.sip_timers.specs.declared.timer.Timer.{Timer}
use Rattle.model_transactions.specs.declared.timer_keys.TimerKeys.{TimerKeys}
use Rattle.sip_request.specs.declared.part.RequestPart.{RequestPart}
use Rattle.sip_request.specs.declared.part.PartTimers.{PartTimers}

-- the name of a timer of a part
abbrev pub name_of : ℕ → Owner → Letter → Name
name_of number owner letter = record { request = number; owner = owner; letter = letter }

-- the timer of a slot as it stands under a key, if there is one
abbrev pub slot_timers : ℕ → Owner → ℕ → Option (Letter × ℕ) → List Timer
slot_timers number owner key None = []
slot_timers number owner key (Some t) = record { key = key; due = t.1; name = name_of number owner t.0 } ∷ []

-- a timer that stands, if there is one, as a list
abbrev pub stood : Option Timer → List Timer
stood None = []
stood (Some t) = t ∷ []

-- the timer of a slot is due before a moment
abbrev pub IsBefore : ℕ → Option (Letter × ℕ) → Type 0
IsBefore bound None = Unit {0}
IsBefore bound (Some t) = t.1 < bound

-- the timers of the three slots as a list
abbrev pub listed : PartTimers → List (Letter × ℕ)
listed p = option_to_list p.again ++ (option_to_list p.last ++ option_to_list p.call)

-- the timers of the three slots as they stand
abbrev pub slots_standing : ℕ → Owner → TimerKeys → PartTimers → List Timer
slots_standing number owner keys p =
    slot_timers number owner keys.again p.again ++ (slot_timers number owner keys.last p.last ++ slot_timers number owner keys.call p.call)

-- the timers of a part as they stand
abbrev pub part_standing : TimerKeys → RequestPart → List Timer
part_standing keys part = slots_standing part.request part.owner keys part.timers

-- the timers of the three slots are due before a moment
pub record IsPartNear (bound : ℕ) (p : PartTimers) : Type 0 where
  pub again : IsBefore bound p.again
  pub last : IsBefore bound p.last
  pub call : IsBefore bound p.call
