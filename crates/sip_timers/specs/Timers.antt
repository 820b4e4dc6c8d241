-- Timers as the list of those that stand, in the order in which they fire: by the moment at which they are
-- due, and at one moment in the order in which they were set.
use Rattle.std.specs.Prelude.{ℕ, ◌≡◌, ◌≤◌, ◌+◌, ◌^◌, ◌==◌, nat_lt, nat_le, Bool, true, not, List, [], ◌∷◌, Option, Some, None, filter}
use Rattle.std.specs.Prelude.{count_by, if◌then◌else◌}
use Rattle.sip_timers.specs.declared.timer.Name.{Name}
use Rattle.sip_timers.specs.declared.timer.Timer.{Timer}

-- a timer that is set goes behind all that are due no later
abbrev pub placed : Timer → List Timer → List Timer
placed t [] = t ∷ []
placed t (u ∷ ts) = if nat_lt t.due u.due then t ∷ u ∷ ts else u ∷ placed t ts

-- the timers that are left when the one of a key is cancelled
abbrev pub without : ℕ → List Timer → List Timer
without key ts = filter (λ t. not (t.key == key)) ts

-- when the first one is due
abbrev pub first_due : List Timer → Option ℕ
first_due [] = None
first_due (t ∷ ts) = Some t.due

-- when the first one is due, and its name
abbrev pub first_named : List Timer → Option (ℕ × Name)
first_named [] = None
first_named (t ∷ ts) = Some (t.due, t.name)

-- the first one if it is due by a moment, and those that are left
abbrev pub popped : ℕ → List Timer → Option Timer × List Timer
popped now [] = (None, [])
popped now (t ∷ ts) = if nat_le t.due now then (Some t, ts) else (None, t ∷ ts)

-- a timer that isn't set: it would be due 2^30 ms or more past the greatest moment by which one was asked for
-- (this project's profile)
abbrev pub IsTooFar : ℕ → ℕ → Type 0
IsTooFar reached due = reached + 2 ^ 30 ≤ due

-- how many have this key
abbrev pub keys_with : ℕ → List Timer → ℕ
keys_with key ts = count_by (λ t. t.key == key) ts

-- no key is that of two
abbrev pub KeysDiffer : List Timer → Type 0
KeysDiffer ts = (key : ℕ) → keys_with key ts ≤ 1

-- a timer is one of some: it passes no test that none of them passes
abbrev pub Stands : Timer → List Timer → Type 0
Stands t ts = (p : Timer → Bool) → p t ≡ true → 1 ≤ count_by p ts

-- how many are due before a moment
abbrev pub due_before : ℕ → List Timer → ℕ
due_before moment ts = count_by (λ t. nat_lt t.due moment) ts

-- how many are due by a moment
abbrev pub due_by : ℕ → List Timer → ℕ
due_by moment ts = count_by (λ t. nat_le t.due moment) ts

-- none is due before one that stands in front of it
abbrev pub AreOrdered : List Timer → Type 0
AreOrdered [] = Unit {0}
AreOrdered (t ∷ ts) = (due_before t.due ts ≡ 0) × AreOrdered ts

-- ---- inside

-- where a timer of this moment goes
abbrev pub place_at : ℕ → List Timer → ℕ
place_at due [] = 0
place_at due (t ∷ ts) = if nat_lt due t.due then 0 else place_at due ts + 1

-- how many have this key or a greater one
abbrev pub keys_from : ℕ → List Timer → ℕ
keys_from key ts = count_by (λ t. nat_le key t.key) ts
