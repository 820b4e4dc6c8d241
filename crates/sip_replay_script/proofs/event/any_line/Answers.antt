use Rattle.std.proofs.Common.{subst, ◌∙◌, ap, Some, refl}
use Rattle.std.proofs.lemmas.Result.{err_from_is_err_and}
use Rattle.sip_replay_script.specs.Lines.{IsSpent, pending}
use Rattle.sip_replay_script.specs.Script.{datagram_at}
use Rattle.sip_replay_script.specs.Events.{GivesFirst}
use Rattle.sip_replay_script.specs.declared.event.EventBeginning.TheVariants.{Says}
use Rattle.sip_replay_script.proofs.Datagrams.{said_head}
use Rattle.sip_replay_script.proofs.Damaged.{no_first_line, said_head_stops, said_other}
use Rattle.sip_replay_script.proofs.event.any_line.Goals as goal

pub returns-in_ok-gather-in-Says-Some-Head-clause-given : goal.returns-in_ok-gather-in-Says-Some-Head-clause-given
returns-in_ok-gather-in-Says-Some-Head-clause-given g c =
    said_head c.args.lines.now c.first_line.new.lines c.gather.new.lines (g.R.TellingReader.remaining c.args.reader.now)
    (g.R.TellingReader.remaining c.first_line.new.reader) (g.R.TellingReader.remaining c.gather.new.reader)
    c.gather.new.bytes c.in-Says-Some-Head.head (datagram_at c.in-Says-Some-Head.head c.gather.new.bytes)
    (subst (λ first. GivesFirst first c.args.lines.now c.first_line.new.lines (g.R.TellingReader.remaining c.args.reader.now)
    (g.R.TellingReader.remaining c.first_line.new.reader))
    (c.in-Says-Some-Head.is ∙ ap (λ said. Says said) (c.in-Says-Some-Head.field-0-is ∙ ap (λ line. Some line) c.in-Says-Some-Head.field-0-0-is))
    c.in_ok-first_line.ensures.given)
    c.in_ok-gather-in-Says-Some-Head.ensures.given c.in_ok-gather-in-Says-Some-Head.ensures.fewer refl

pub returns-in_err-gather-in-Says-Some-Head-clause-stopped : goal.returns-in_err-gather-in-Says-Some-Head-clause-stopped
returns-in_err-gather-in-Says-Some-Head-clause-stopped g c =
    let p = err_from_is_err_and c.from_residual-in_err-gather-in-Says-Some-Head.result c.from_residual-in_err-gather-in-Says-Some-Head.ensures.1 in
    rw (p.1, p.2) (said_head_stops (IsSpent (g.R.TellingReader.has_failed c.gather.new.reader) c.gather.new.lines.asks) c.args.lines.now c.first_line.new.lines
    (g.R.TellingReader.remaining c.args.reader.now) (g.R.TellingReader.remaining c.first_line.new.reader) c.in-Says-Some-Head.head
    c.in_err-gather-in-Says-Some-Head.field-0.0
    (subst (λ first. GivesFirst first c.args.lines.now c.first_line.new.lines (g.R.TellingReader.remaining c.args.reader.now)
    (g.R.TellingReader.remaining c.first_line.new.reader))
    (c.in-Says-Some-Head.is ∙ ap (λ said. Says said) (c.in-Says-Some-Head.field-0-is ∙ ap (λ line. Some line) c.in-Says-Some-Head.field-0-0-is))
    c.in_ok-first_line.ensures.given)
    c.in_err-gather-in-Says-Some-Head.ensures.stopped)

pub returns-in_err-first_line-clause-stopped : goal.returns-in_err-first_line-clause-stopped
returns-in_err-first_line-clause-stopped g c =
    let p = err_from_is_err_and c.from_residual.result c.from_residual.ensures.1 in
    rw (p.1, p.2) (no_first_line (IsSpent (g.R.TellingReader.has_failed c.first_line.new.reader) c.first_line.new.lines.asks)
    (pending c.args.lines.now (g.R.TellingReader.remaining c.args.reader.now)) c.in_err-first_line.field-0.0
    c.in_err-first_line.ensures.stopped)

pub returns-in-Says-None-clause-stopped : goal.returns-in-Says-None-clause-stopped
returns-in-Says-None-clause-stopped g c =
    said_other c.args.lines.now c.first_line.new.lines (g.R.TellingReader.remaining c.args.reader.now) (g.R.TellingReader.remaining c.first_line.new.reader)
    (subst (λ first. GivesFirst first c.args.lines.now c.first_line.new.lines (g.R.TellingReader.remaining c.args.reader.now)
    (g.R.TellingReader.remaining c.first_line.new.reader))
    (c.in-Says-None.is ∙ ap (λ said. Says said) c.in-Says-None.field-0-is) c.in_ok-first_line.ensures.given)
