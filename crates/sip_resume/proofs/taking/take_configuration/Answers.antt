use Rattle.std.proofs.Common.{◌+◌, ap}
use Rattle.std.proofs.lemmas.Result.{err_from_is_err_and}
use Rattle.sip_replay_script.specs.Lines.{IsSpent, pending}
use Rattle.sip_segment_config.specs.Reads.{GivesStated}
use Rattle.sip_resume.proofs.Stopping.{change_stops, unread_stops}
use Rattle.sip_resume.proofs.taking.take_configuration.Goals as goal

pub returns-in_err-held-clause-refused : goal.returns-in_err-held-clause-refused
returns-in_err-held-clause-refused g c =
    let p = err_from_is_err_and c.from_residual.result c.from_residual.ensures.1 in
    rw (p.1, p.2) (unread_stops c.args.engine.now.server c.args.longest (IsSpent (g.I.TellingReader.has_failed c.read_configuration.new.reader)
    c.read_configuration.new.lines.asks)
    (pending c.args.lines.now (g.I.TellingReader.remaining c.args.reader.now)) c.args.lines.now.number c.in_err-held.field-0.0 c.in_err-held.ensures.refused)

pub returns-in_err-change_to-clause-refused : goal.returns-in_err-change_to-clause-refused
returns-in_err-change_to-clause-refused g c =
    let p = err_from_is_err_and c.from_residual-in_err-change_to.result c.from_residual-in_err-change_to.ensures.1 in
    rw (p.1, p.2) (change_stops c.args.engine.now.server c.args.longest (IsSpent (g.I.TellingReader.has_failed c.read_configuration.new.reader)
    c.read_configuration.new.lines.asks)
    (pending c.args.lines.now (g.I.TellingReader.remaining c.args.reader.now)) c.args.lines.now.number (c.number-first.result + 1) c.in-Some.held.text
    c.in-Some.held.config c.in_err-change_to.field-0.0
    (ap (λ n. n + 1) c.number-first.ensures.value) (rw c.in-Some.is at c.in_ok-held.ensures.next)
    (let given : GivesStated c.args.lines.now c.read_configuration.new.lines (g.I.TellingReader.remaining c.args.reader.now)
    (g.I.TellingReader.remaining c.read_configuration.new.reader) c.in-Some.held.text c.in-Some.held.config = rw c.in-Some.is at c.in_ok-held.ensures.given in
    given.states) c.in_err-change_to.ensures.refused)
