use Rattle.std.proofs.Common.{inl, refl, ◌∙◌}
use Rattle.std.proofs.lemmas.Result.{err_from_is_err_and}
use Rattle.sip_retell.specs.run.Due.{standing_of}
use Rattle.sipd_telling.proofs.Shown.{told_err, told_ok}
use Rattle.sipd_telling.proofs.files.tell_day.Goals as goal

pub returns-in_err-telling-clause-refused : goal.returns-in_err-telling-clause-refused
returns-in_err-telling-clause-refused g c =
    let p = err_from_is_err_and c.from_residual.result c.from_residual.ensures.1 in
    rw (p.1, p.2) (inl (record { silent = refl; why = c.in_err-telling.ensures.refused }))

pub returns-clause-told : goal.returns-clause-told
returns-clause-told g c =
    told_ok g.L.Listener.hears g.L.Listener.refuses c.what_is_told_is_lawful.ensures c.tell.result c.args.head.now c.args.named
    c.in_ok-telling.telling.engine.server c.tell.new.telling.engine.server (standing_of c.in_ok-telling.telling.engine)
    (standing_of c.tell.new.telling.engine) c.in_ok-telling.telling.lines (g.I.TellingReader.remaining c.args.events.now)
    (g.I.TellingReader.remaining c.begin.new.reader) c.args.listener.now c.tell.new.listener c.in_ok-telling.ensures.begun c.tell.ensures.told

pub returns-clause-refused : goal.returns-clause-refused
returns-clause-refused g c =
    told_err g.L.Listener.hears g.L.Listener.refuses c.tell.result c.args.head.now c.args.named (g.I.TellingReader.has_failed c.tell.new.reader)
    c.tell.new.telling.lines.asks (g.I.TellingReader.asked c.args.events.now) (g.I.TellingReader.asked c.tell.new.reader)
    c.in_ok-telling.telling.engine.server c.tell.new.telling.engine.server (standing_of c.in_ok-telling.telling.engine)
    (standing_of c.tell.new.telling.engine) c.in_ok-telling.telling.lines (g.I.TellingReader.remaining c.args.events.now)
    (g.I.TellingReader.remaining c.begin.new.reader) c.args.listener.now c.tell.new.listener (g.L.Listener.gave_up c.tell.new.listener)
    c.in_ok-telling.ensures.begun (c.tell.ensures.asked ∙ c.in_ok-telling.ensures.asked) c.tell.ensures.refused
