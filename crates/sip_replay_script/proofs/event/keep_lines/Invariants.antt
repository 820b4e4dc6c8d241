use Rattle.std.proofs.Common.{◌≡◌, ◌≤◌, length}
use Rattle.sip_replay_script.specs.Events.{KeepsLines}
use Rattle.sip_replay_script.specs.declared.gathered.TheConstants.{KEPT}
use Rattle.sip_replay_script.proofs.event.keep_lines.Given as goal

-- the bytes so far are what the lines so far say
abbrev pub invariant-loop-lines : goal.invariant-loop-lines
invariant-loop-lines l =
    (length l.bytes ≤ KEPT) × KeepsLines l.fn.lines l.lines l.fn.bytes l.bytes × (l.lines.asks ≡ l.fn.lines.asks) × (length l.lines.unread ≤ length l.fn.lines.unread)

abbrev pub decreases-loop-lines : goal.decreases-loop-lines
decreases-loop-lines l = length l.lines.unread
