use Rattle.sipd_telling.specs.run.Due.{standing_of}
use Rattle.sipd_page.proofs.Told.{tells_to, was_told}
use Rattle.sipd_page.proofs.opening.tell_day.Goals as goal

pub returns : goal.returns
returns g c =
    let server = c.tell.new.telling.engine.server in
    was_told c.told_by.result c.args.head.now c.args.notes.now c.tell.new.listener server.config c.config.result.now
    (tells_to c.what_is_told_is_lawful.ensures c.args.head.now c.args.named c.in_ok-telling.telling.engine.server server
    (standing_of c.in_ok-telling.telling.engine) (standing_of c.tell.new.telling.engine) c.in_ok-telling.telling.lines
    (g.I.TellingReader.remaining c.args.events.now) (g.I.TellingReader.remaining c.begin.new.reader) c.args.notes.now c.tell.new.listener
    c.in_ok-telling.ensures.begun c.in_ok-tell.ensures.told) c.config.ensures c.told_by.ensures.policy c.told_by.ensures.offset c.told_by.ensures.digest
