-- What numbered lists of timers are seen as.
use Rattle.std.specs.Prelude.{ℕ, nat_lt, List, [], ◌∷◌, ◌++◌, Option, Some, None, slice_index_or, if◌then◌else◌}
use Rattle.sip_timers.specs.declared.timer.Timer.{Timer}

-- the timers of each slot, in the order in which they were put behind one another, and how many further
-- timers take no memory
pub record TimerLists : Type 0 where
  pub lists : List (List Timer)
  pub room : ℕ

-- the timers of a slot
abbrev pub list_at : List (List Timer) → ℕ → List Timer
list_at lists slot = slice_index_or lists slot []

-- the timers of all slots
abbrev pub concat : List (List Timer) → List Timer
concat [] = []
concat (ts ∷ lists) = ts ++ concat lists

-- of a timer and one that may stand behind it, the one that is due first, at a tie the one in front
abbrev pub earlier : Timer → Option Timer → Timer
earlier t None = t
earlier t (Some u) = if nat_lt u.due t.due then u else t

-- the timer that is due first, and of several of one moment the one in front
abbrev pub least : List Timer → Option Timer
least [] = None
least (t ∷ ts) = Some (earlier t (least ts))

-- the timer in front, if there is one
abbrev pub first_of : List Timer → Option Timer
first_of [] = None
first_of (t ∷ ts) = Some t
