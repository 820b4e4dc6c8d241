-- Timers that are set, one behind the other.
use Rattle.std.specs.Prelude.{◌≡◌, ◌≢◌, Bool, List, [], ◌∷◌, filter}
use Rattle.std.specs.List.{AllByRecursion}
use Rattle.sip_timers.specs.declared.timer.Timer.{Timer}
use Rattle.sip_timers.specs.Timers.{placed, AreOrdered}

-- timers that are set in this order, each behind those that stand
abbrev pub all_placed : List Timer → List Timer → List Timer
all_placed standing [] = standing
all_placed standing (t ∷ ts) = all_placed (placed t standing) ts

-- Some timers, in their order.
pub data AreSome : List Timer → List Timer → Type 0 where
  NoMore : AreSome [] []
  Takes : (t : Timer) (ts us : List Timer) → AreSome ts us → AreSome (t ∷ ts) (t ∷ us)
  LeavesOut : (t : Timer) (ts us : List Timer) → AreSome ts us → AreSome ts (t ∷ us)

-- a timer is none of these: it is due at another moment, or is for something else
abbrev pub IsNew : List Timer → Timer → Type 0
IsNew before t = AllByRecursion (λ u. u.due ≡ t.due → u.name ≢ t.name) before

-- Of the timers that stood some stand, in their order, and some of those that are named were set behind them, in theirs; none
-- that was set is one of those before.
pub record SetsInOrder (old before new named : List Timer) : Type 0 where
  pub stays : Timer → Bool
  pub set : List Timer
  pub are_named : AreSome set named
  pub are_new : AllByRecursion (IsNew before) set
  pub order : AreOrdered old → new ≡ all_placed (filter stays old) set
