-- Timers stay in order.
use Rattle.std.proofs.Common.{◌≡◌, ℕ, List, sym, subst}
use Rattle.std.specs.Prelude.{Result, Ok, Err, IfOk, OnErr}
use Rattle.sip_timers.specs.declared.error.TimerError.{TimerError}
use Rattle.sip_timers.specs.declared.timer.Name.{Name}
use Rattle.sip_timers.specs.declared.timer.Timer.{Timer}
use Rattle.sip_timers.specs.Timers.{placed, without, AreOrdered}
use Rattle.sip_timers.proofs.Placing.{AreOrdered-placed, AreOrdered-without}
use Rattle.sip_fork.specs.Queue.{IsQueue}

-- where one is set, or refused
pub IsQueue-added : (old new : List Timer) (due : ℕ) (name : Name) (result : Result ℕ TimerError) → IsQueue old
    → IfOk result (λ key. new ≡ placed (record { key = key; due = due; name = name }) old) → OnErr result (new ≡ old) → IsQueue new
IsQueue-added old new due name (Ok key) h ok err = record {
  ordered = subst (λ (ts : List Timer). AreOrdered ts) (sym ok)
      (AreOrdered-placed (record { key = key; due = due; name = name }) old h.ordered);
}
IsQueue-added old new due name (Err e) h ok err = record { ordered = subst (λ (ts : List Timer). AreOrdered ts) (sym err) h.ordered }

-- where one is cancelled
pub IsQueue-without : (old new : List Timer) (key : ℕ) → IsQueue old → new ≡ without key old → IsQueue new
IsQueue-without old new key h e = record { ordered = subst (λ (ts : List Timer). AreOrdered ts) (sym e) (AreOrdered-without key old h.ordered) }
