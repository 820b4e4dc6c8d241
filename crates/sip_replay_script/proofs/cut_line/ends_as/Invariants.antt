use Rattle.std.proofs.Common.{ℕ, ◌<◌, ◌++◌, drop}
use Rattle.sip_replay_script.specs.Events.{BeginsEvent}
use Rattle.sip_replay_script.proofs.cut_line.ends_as.Given as goal

abbrev pub invariant-loop-place : goal.invariant-loop-place
invariant-loop-place l = (k : ℕ) → k < l.place → BeginsEvent (l.text ++ drop k l.sample) → ⊥
