use Rattle.std.proofs.Common.{◌≤◌, ◌-◌, drop, length}
use Rattle.sip_journal.specs.Recorder.{WritesText}
use Rattle.sip_journal.proofs.configuration_lines.write_text.Given as goal

-- lines that give what stands in front of the place were written
abbrev pub invariant-loop-done : goal.invariant-loop-done
invariant-loop-done g l = WritesText (g.W.TellingWriter.contents l.initial.writer) (g.W.TellingWriter.contents l.writer) l.text (drop l.done l.text)
    × (l.done ≤ length l.text)

abbrev pub decreases-loop-done : goal.decreases-loop-done
decreases-loop-done g l = length l.text - l.done
