use Rattle.std.proofs.Common.{subst, ◌∙◌, ap, Some}
use Rattle.std.proofs.lemmas.Result.{err_from_is_err_and}
use Rattle.sip_replay_script.specs.Lines.{IsSpent, pending}
use Rattle.sip_replay_script.specs.Events.{GivesFirst}
use Rattle.sip_replay_script.specs.declared.event.EventBeginning.TheVariants.{Says}
use Rattle.sip_replay_script.proofs.RecordTexts.{head_recorded, head_recorded_stops, no_first, other_recorded, whole_recorded}
use Rattle.sip_replay_script.proofs.recorded_event.next_recorded.Goals as goal

pub returns-in_err-first_line-clause-stopped : goal.returns-in_err-first_line-clause-stopped
returns-in_err-first_line-clause-stopped g c =
    let p = err_from_is_err_and c.from_residual.result c.from_residual.ensures.1 in
    rw (p.1, p.2) (no_first (IsSpent (g.R.TellingReader.has_failed c.first_line.new.reader) c.first_line.new.lines.asks)
    (pending c.args.lines.now (g.R.TellingReader.remaining c.args.reader.now)) c.in_err-first_line.field-0.0
    c.in_err-first_line.ensures.stopped)

pub returns-in_err-pass_dot-in-Says-Some-Head-clause-stopped : goal.returns-in_err-pass_dot-in-Says-Some-Head-clause-stopped
returns-in_err-pass_dot-in-Says-Some-Head-clause-stopped g c =
    let p = err_from_is_err_and c.from_residual-in_err-pass_dot-in-Says-Some-Head.result c.from_residual-in_err-pass_dot-in-Says-Some-Head.ensures.1 in
    rw (p.1, p.2) (head_recorded_stops (IsSpent (g.R.TellingReader.has_failed c.pass_dot.new.reader) c.pass_dot.new.lines.asks) c.args.lines.now c.first_line.new.lines
    (g.R.TellingReader.remaining c.args.reader.now) (g.R.TellingReader.remaining c.first_line.new.reader) c.in-Says-Some-Head.head
    c.in_err-pass_dot-in-Says-Some-Head.field-0.0
    (subst (λ first. GivesFirst first c.args.lines.now c.first_line.new.lines (g.R.TellingReader.remaining c.args.reader.now)
    (g.R.TellingReader.remaining c.first_line.new.reader))
    (c.in-Says-Some-Head.is ∙ ap (λ said. Says said) (c.in-Says-Some-Head.field-0-is ∙ ap (λ line. Some line) c.in-Says-Some-Head.field-0-0-is))
    c.in_ok-first_line.ensures.given)
    c.in_err-pass_dot-in-Says-Some-Head.ensures.stopped)

pub returns-in-Says-None-clause-stopped : goal.returns-in-Says-None-clause-stopped
returns-in-Says-None-clause-stopped g c =
    other_recorded c.args.lines.now c.first_line.new.lines (g.R.TellingReader.remaining c.args.reader.now) (g.R.TellingReader.remaining c.first_line.new.reader)
    (subst (λ first. GivesFirst first c.args.lines.now c.first_line.new.lines (g.R.TellingReader.remaining c.args.reader.now)
    (g.R.TellingReader.remaining c.first_line.new.reader))
    (c.in-Says-None.is ∙ ap (λ said. Says said) c.in-Says-None.field-0-is) c.in_ok-first_line.ensures.given)

pub returns-in-Says-Some-Whole-clause-given : goal.returns-in-Says-Some-Whole-clause-given
returns-in-Says-Some-Whole-clause-given g c =
    whole_recorded c.args.lines.now c.first_line.new.lines (g.R.TellingReader.remaining c.args.reader.now) (g.R.TellingReader.remaining c.first_line.new.reader)
    c.in-Says-Some-Whole.event
    (subst (λ first. GivesFirst first c.args.lines.now c.first_line.new.lines (g.R.TellingReader.remaining c.args.reader.now)
    (g.R.TellingReader.remaining c.first_line.new.reader))
    (c.in-Says-Some-Whole.is ∙ ap (λ said. Says said) (c.in-Says-Some-Whole.field-0-is ∙ ap (λ line. Some line) c.in-Says-Some-Whole.field-0-0-is))
    c.in_ok-first_line.ensures.given)

pub returns-in_ok-pass_dot-in-Says-Some-Head-clause-given : goal.returns-in_ok-pass_dot-in-Says-Some-Head-clause-given
returns-in_ok-pass_dot-in-Says-Some-Head-clause-given g c =
    head_recorded c.args.lines.now c.first_line.new.lines c.pass_dot.new.lines (g.R.TellingReader.remaining c.args.reader.now)
    (g.R.TellingReader.remaining c.first_line.new.reader) (g.R.TellingReader.remaining c.pass_dot.new.reader)
    c.in-Says-Some-Head.head c.without_bytes.result
    (subst (λ first. GivesFirst first c.args.lines.now c.first_line.new.lines (g.R.TellingReader.remaining c.args.reader.now)
    (g.R.TellingReader.remaining c.first_line.new.reader))
    (c.in-Says-Some-Head.is ∙ ap (λ said. Says said) (c.in-Says-Some-Head.field-0-is ∙ ap (λ line. Some line) c.in-Says-Some-Head.field-0-0-is))
    c.in_ok-first_line.ensures.given)
    c.in_ok-pass_dot-in-Says-Some-Head.ensures.passed c.without_bytes.ensures
