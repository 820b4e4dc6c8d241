use Rattle.std.proofs.Common.{sym, ◌∙◌}
use Rattle.sip_replay_script.specs.Lines.{pending}
use Rattle.sip_journal.proofs.FirstBytes.{comes_other}
use Rattle.sip_journal.proofs.upcoming.look_for_event.Goals as goal

pub returns-in-Some-clause-none : goal.returns-in-Some-clause-none
returns-in-Some-clause-none g c = λ e.
    comes_other c.peek.new.self (pending c.args.lines.now (g.R.TellingReader.remaining c.args.reader.now)) (g.R.TellingReader.remaining c.peek.new.reader) c.in-Some.byte
    c.in_ok-byte.ensures.kept
    (rw c.in-Some.is at c.in_ok-byte.ensures.byte) (sym c.begins_event.ensures ∙ e)
