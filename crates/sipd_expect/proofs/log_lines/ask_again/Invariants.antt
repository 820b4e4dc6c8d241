use Rattle.std.proofs.Common.{◌≡◌, ◌≤◌}
use Rattle.sip_replay_script.specs.Devices.{later}
use Rattle.sip_replay_script.specs.Lines.{pending, left}
use Rattle.sipd_expect.proofs.AskedAgain.{IsSoFar}
use Rattle.sipd_expect.proofs.log_lines.ask_again.Given as goal

-- the lines so far are told
abbrev pub invariant-loop-line : goal.invariant-loop-line
invariant-loop-line g l =
    IsSoFar l.config (g.I.TellingReader.remaining l.fn.input) (pending l.lines (g.I.TellingReader.remaining l.input)) (g.W.TellingWriter.contents l.fn.output)
    (g.W.TellingWriter.contents l.output) l.counts
    × (l.lines.asks ≤ 4294967295) × (later l.lines.asks (g.I.TellingReader.asked l.input) ≡ later 4294967295 (g.I.TellingReader.asked l.fn.input))

abbrev pub decreases-loop-line : goal.decreases-loop-line
decreases-loop-line g l = left l.lines
