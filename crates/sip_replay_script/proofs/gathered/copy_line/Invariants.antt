use Rattle.std.proofs.Common.{◌≡◌, ◌+◌, ◌-◌, ◌≤◌, ◌++◌, length, take, drop}
use Rattle.httparse.specs.Pieces.{AllPassBetween}
use Rattle.sip_replay_script.specs.Gathered.{is_inside}
use Rattle.sip_replay_script.proofs.gathered.copy_line.Given as goal

-- the bytes so far are copied, and none of them is LF
abbrev pub invariant-loop-run : goal.invariant-loop-run
invariant-loop-run l =
    (l.from + l.done ≤ l.limit) × (take (l.to + l.done) l.room ≡ take l.to l.initial.room ++ take l.done (drop l.from l.text))
    × (length l.room ≡ length l.initial.room) × AllPassBetween is_inside l.text l.from (l.from + l.done)

abbrev pub decreases-loop-run : goal.decreases-loop-run
decreases-loop-run l = length l.text - l.done
