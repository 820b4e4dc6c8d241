-- Timers of the worked example.
use Rattle.std.specs.Prelude.{ℕ, List, []}
use Rattle.sip_timers.specs.declared.letter.Letter.{Letter}
use Rattle.sip_timers.specs.declared.letter.Letter.TheVariants.{A, B, C}
use Rattle.sip_timers.specs.declared.timer.Owner.TheVariants.{Branch}
use Rattle.sip_timers.specs.declared.timer.Timer.{Timer}
use Rattle.sip_timers.specs.Timers.{placed}

-- a timer of the first request's first branch
abbrev pub timer : ℕ → ℕ → Letter → Timer
timer key due letter = record { key = key; due = due; name = record { request = 1; owner = Branch 1; letter = letter } }

-- A, due at 10
abbrev pub timer_a : Timer
timer_a = timer 0 10 A

-- B, due at 5
abbrev pub timer_b : Timer
timer_b = timer 1 5 B

-- C, due at 5
abbrev pub timer_c : Timer
timer_c = timer 2 5 C

-- A, B and C, set in this order
abbrev pub three_timers : List Timer
three_timers = placed timer_c (placed timer_b (placed timer_a []))
