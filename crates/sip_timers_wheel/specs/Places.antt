-- Where a timer stands in the wheel: 5 levels of 64 slots, of 1 ms each at the lowest level and 64 times as long at each
-- further one.
use Rattle.std.specs.Prelude.{ℕ, ◌+◌, ◌*◌, ◌/◌, ◌%◌, nat_eq, nat_le, if◌then◌else◌}

-- how long a slot of a level is, in milliseconds
abbrev pub width : ℕ → ℕ
width level =
    if nat_eq level 0 then 1
    else if nat_eq level 1 then 64
    else if nat_eq level 2 then 4096
    else if nat_eq level 3 then 262144
    else 16777216

-- how many slots of a level end by a moment, from moment 0 on
abbrev pub position : ℕ → ℕ → ℕ
position level moment = moment / width level

-- the level of a timer: the lowest one whose 64 slots on from the last full round have both the moment that was reached and that at which it is due
abbrev pub level_of : ℕ → ℕ → ℕ
level_of reached due =
    if nat_eq (due / 64) (reached / 64) then 0
    else if nat_eq (due / 4096) (reached / 4096) then 1
    else if nat_eq (due / 262144) (reached / 262144) then 2
    else if nat_eq (due / 16777216) (reached / 16777216) then 3
    else 4

-- the slot behind those of the levels: of all that is due by the moment that was reached
abbrev pub late_slot : ℕ
late_slot = 320

-- no slot: of what is due too far ahead
abbrev pub no_slot : ℕ
no_slot = 321

-- the slot of a level that has a moment
abbrev pub slot_at : ℕ → ℕ → ℕ
slot_at level due = level * 64 + due / width level % 64

-- the slot of what is due at a moment
abbrev pub slot_of : ℕ → ℕ → ℕ
slot_of reached due =
    if nat_le due reached then late_slot
    else if nat_le (reached + 1073741824) due then no_slot
    else slot_at (level_of reached due) due

-- the first moment of that slot, where it is one of a level
abbrev pub start_of : ℕ → ℕ → ℕ
start_of reached due = due / width (level_of reached due) * width (level_of reached due)
