-- Timers of several lists in one order: that in which they fire, where those of one moment stand in one list.
use Rattle.std.specs.Prelude.{◌==◌, ℕ, List, [], ◌∷◌, filter}
use Rattle.sip_timers.specs.declared.timer.Timer.{Timer}
use Rattle.sip_timers.specs.Timers.{placed}

-- those that are due at a moment
abbrev pub due_at : ℕ → List Timer → List Timer
due_at due ts = filter (λ t. t.due == due) ts

-- timers, each set behind those that stand
abbrev pub all_placed : List Timer → List Timer → List Timer
all_placed standing [] = standing
all_placed standing (t ∷ ts) = all_placed (placed t standing) ts

-- timers in the order in which they fire; those of one moment stay in the order of the list
abbrev pub in_order : List Timer → List Timer
in_order ts = all_placed [] ts
