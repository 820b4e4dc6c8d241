use Rattle.std.proofs.Common.{[]}
use Rattle.std.proofs.lemmas.Result.{err_from_is_err_and}
use Rattle.sip_model.specs.state.State.{first_state}
use Rattle.sip_resume.proofs.of_standings.{standing_is}
use Rattle.sip_resume.specs.run.Due.{standing_of}
use Rattle.sip_replay_script.specs.Lines.{IsSpent, pending}
use Rattle.sip_replay.proofs.OneRecord.{replayed, unreplayed}
use Rattle.sip_replay.proofs.record.replay_record.Goals as goal

pub returns-clause-replayed : goal.returns-clause-replayed
returns-clause-replayed g c =
    replayed c.every_record_is_lawful.ensures c.args.config c.args.boot.word c.args.boot.first c.in-Ok.engine.server c.resume_record.new.engine.server
    (standing_of c.in-Ok.engine) (standing_of c.resume_record.new.engine)
    (pending c.args.lines.now (g.I.TellingReader.remaining c.args.reader.now)) c.args.lines.now.number c.in_ok-resume_record.field-0.lines
    (g.W.TellingWriter.contents c.args.printer.now.writer) (g.W.TellingWriter.contents c.resume_record.new.sink.writer)
    c.in_ok-resume_record.field-0.last c.in-Ok.ensures.server (standing_is c.in-Ok.engine (first_state c.args.boot.first) [] c.in-Ok.ensures.state c.in-Ok.ensures.timers)
    c.in_ok-resume_record.ensures.resumed

pub returns-in_err-resume_record-clause-refused : goal.returns-in_err-resume_record-clause-refused
returns-in_err-resume_record-clause-refused g c =
    let p = err_from_is_err_and c.from_residual.result c.from_residual.ensures.1 in
    rw (p.1, p.2) (unreplayed c.every_record_is_lawful.ensures c.args.config c.args.boot.word c.args.boot.first c.in-Ok.engine.server c.resume_record.new.engine.server
    (standing_of c.in-Ok.engine) (standing_of c.resume_record.new.engine) c.args.longest
    (IsSpent (g.I.TellingReader.has_failed c.resume_record.new.reader) c.resume_record.new.lines.asks)
    (pending c.args.lines.now (g.I.TellingReader.remaining c.args.reader.now)) c.args.lines.now.number
    (g.W.TellingWriter.contents c.args.printer.now.writer) (g.W.TellingWriter.contents c.resume_record.new.sink.writer) c.in_err-resume_record.field-0.0
    c.in-Ok.ensures.server (standing_is c.in-Ok.engine (first_state c.args.boot.first) [] c.in-Ok.ensures.state c.in-Ok.ensures.timers)
    c.in_err-resume_record.ensures.refused)
