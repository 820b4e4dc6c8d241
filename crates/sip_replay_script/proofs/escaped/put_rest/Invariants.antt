use Rattle.std.proofs.Common.{◌≡◌, ◌+◌, ◌-◌, ◌*◌, ◌≤◌, drop, length}
use Rattle.sip_replay_script.specs.Escaped.{text_with}
use Rattle.sip_replay_script.proofs.escaped.put_rest.Given as goal

abbrev pub invariant-loop-done : goal.invariant-loop-done
invariant-loop-done l =
    (text_with l.room l.end (drop l.done l.bytes) ≡ text_with l.initial.room l.at (drop l.from l.bytes)) × (l.from ≤ l.done) × (l.done ≤ length l.bytes)
    × (l.end + 3 * l.from ≤ l.at + 3 * l.done) × (length l.room ≡ length l.initial.room)

abbrev pub decreases-loop-done : goal.decreases-loop-done
decreases-loop-done l = length l.bytes - l.done
