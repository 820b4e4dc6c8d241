use Rattle.std.proofs.Common.{false, true, sym, ◌∙◌}
use Rattle.sip_replay_script.specs.Lines.{pending}
use Rattle.sip_journal.specs.Configurations.{begins_configuration}
use Rattle.sip_journal.proofs.FirstBytes.{comes_configuration, comes_event, has_first}
use Rattle.sip_journal.proofs.upcoming.look_ahead.Goals as goal

pub returns-then-begins_configuration-clause-next : goal.returns-then-begins_configuration-clause-next
returns-then-begins_configuration-clause-next g c = (
  c.in_ok-byte.ensures.kept,
  comes_configuration c.peek.new.self (pending c.args.lines.now (g.R.TellingReader.remaining c.args.reader.now)) (g.R.TellingReader.remaining c.peek.new.reader)
      c.in-Some.byte c.in_ok-byte.ensures.kept
      (rw c.in-Some.is at c.in_ok-byte.ensures.byte) (sym c.begins_configuration.ensures ∙ c.if-begins_configuration.true),
)

pub returns-else-begins_configuration-clause-next : goal.returns-else-begins_configuration-clause-next
returns-else-begins_configuration-clause-next g c = (
  c.in_ok-byte.ensures.kept,
  comes_event c.peek.new.self (pending c.args.lines.now (g.R.TellingReader.remaining c.args.reader.now)) (g.R.TellingReader.remaining c.peek.new.reader) c.in-Some.byte
      c.in_ok-byte.ensures.kept
      (rw c.in-Some.is at c.in_ok-byte.ensures.byte) (sym c.begins_configuration.ensures ∙ c.if-begins_configuration.false),
)

pub returns-then-begins_configuration-clause-first : goal.returns-then-begins_configuration-clause-first
returns-then-begins_configuration-clause-first g c =
    has_first begins_configuration true c.peek.new.self (pending c.args.lines.now (g.R.TellingReader.remaining c.args.reader.now))
    (g.R.TellingReader.remaining c.peek.new.reader) c.in-Some.byte c.in_ok-byte.ensures.kept
    (rw c.in-Some.is at c.in_ok-byte.ensures.byte) (sym c.begins_configuration.ensures ∙ c.if-begins_configuration.true)

pub returns-else-begins_configuration-clause-first : goal.returns-else-begins_configuration-clause-first
returns-else-begins_configuration-clause-first g c =
    has_first begins_configuration false c.peek.new.self (pending c.args.lines.now (g.R.TellingReader.remaining c.args.reader.now))
    (g.R.TellingReader.remaining c.peek.new.reader) c.in-Some.byte c.in_ok-byte.ensures.kept
    (rw c.in-Some.is at c.in_ok-byte.ensures.byte) (sym c.begins_configuration.ensures ∙ c.if-begins_configuration.false)
