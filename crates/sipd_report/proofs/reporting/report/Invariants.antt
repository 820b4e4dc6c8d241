use Rattle.std.proofs.Common.{◌≡◌, ◌≤◌}
use Rattle.sip_replay_script.specs.Devices.{later}
use Rattle.sip_replay_script.specs.Lines.{pending, left}
use Rattle.sipd_report.proofs.Reported.{IsReported}
use Rattle.sipd_report.proofs.reporting.report.Given as goal

-- the lines so far are reported
abbrev pub invariant-loop-tally : goal.invariant-loop-tally
invariant-loop-tally g l =
    IsReported l.query (g.I.TellingReader.remaining l.fn.input) (pending l.lines (g.I.TellingReader.remaining l.input)) (g.W.TellingWriter.contents l.fn.output)
    (g.W.TellingWriter.contents l.output) l.tally
    × (l.lines.asks ≤ 4294967295) × (later l.lines.asks (g.I.TellingReader.asked l.input) ≡ later 4294967295 (g.I.TellingReader.asked l.fn.input))

abbrev pub decreases-loop-tally : goal.decreases-loop-tally
decreases-loop-tally g l = left l.lines
