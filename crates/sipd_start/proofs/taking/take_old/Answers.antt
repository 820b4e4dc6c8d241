use Rattle.std.proofs.lemmas.Result.{err_from_is_err_and}
use Rattle.sip_replay_script.specs.Lines.{pending}
use Rattle.sip_resume.specs.run.Due.{standing_of}
use Rattle.sipd_start.proofs.Refusals.{stops_at, under_exits}
use Rattle.sipd_start.proofs.taking.take_old.Goals as goal

pub returns-in-Err-clause-stopped : goal.returns-in-Err-clause-stopped
returns-in-Err-clause-stopped g c =
    stops_at c.resume_record.result c.args.old.first c.args.stated.now.bytes c.args.engine.now.server _ (standing_of c.args.engine.now) _
    (g.I.TellingReader.has_failed c.resume_record.new.reader) c.resume_record.new.lines.asks
    c.args.old.lines.asks (g.I.TellingReader.asked c.args.reader.now) (g.I.TellingReader.asked c.resume_record.new.reader)
    (pending c.args.old.lines (g.I.TellingReader.remaining c.args.reader.now)) c.args.old.lines.number
    (g.J.Journal.written c.args.journal.now) _ _ c.in-Err.e c.untaken.result c.asks_add_up.ensures.spent c.in-Err.is c.resume_record.ensures.gave_up c.untaken.ensures
    (rw c.as_slice.ensures at c.in_ok-tell.ensures.noted) c.resume_record.ensures.asked c.in-Err.ensures.refused

pub returns-in_err-come_under-clause-stopped : goal.returns-in_err-come_under-clause-stopped
returns-in_err-come_under-clause-stopped g c =
    let p = err_from_is_err_and c.from_residual-in_err-come_under.result c.from_residual-in_err-come_under.ensures.1 in
    rw p.1 (under_exits _ _ _ _ _ _ _ _ _ _ _ _ _ _ c.in_err-come_under.field-0.0 _ c.frame_is_place_and_realm.ensures c.in-Ok.ensures.resumed
    c.in_err-come_under.ensures.refused p.2)
