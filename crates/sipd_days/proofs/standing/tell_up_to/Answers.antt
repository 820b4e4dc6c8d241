use Rattle.sipd_telling.specs.run.Due.{standing_of}
use Rattle.sip_replay_script.specs.Lines.{IsSpent, pending}
use Rattle.sipd_days.proofs.Stood.{all_told, not_passed}
use Rattle.sipd_days.proofs.standing.tell_up_to.Goals as goal

pub returns-in-Ok-clause-told : goal.returns-in-Ok-clause-told
returns-in-Ok-clause-told g c =
    all_told g.L.Listener.hears g.L.Listener.refuses c.args.telling.now.engine.server (standing_of c.args.telling.now.engine)
    (standing_of c.pass.new.telling.engine) (pending c.args.telling.now.lines (g.I.TellingReader.remaining c.args.events.now)) c.args.telling.now.lines.number
    c.args.listener.now c.pass.new.listener c.pass.result c.tell.new.telling.engine.server c.pass.new.telling.engine.server
    (standing_of c.tell.new.telling.engine) c.args.at c.tell.new.listener c.pass.ensures.server c.in-Ok.ensures.told c.pass.ensures.passed

pub returns-in-Ok-clause-refused : goal.returns-in-Ok-clause-refused
returns-in-Ok-clause-refused g c =
    not_passed g.L.Listener.hears g.L.Listener.refuses c.args.telling.now.engine.server (standing_of c.args.telling.now.engine)
    (standing_of c.pass.new.telling.engine) (pending c.args.telling.now.lines (g.I.TellingReader.remaining c.args.events.now)) c.args.telling.now.lines.number
    c.args.listener.now c.pass.new.listener c.pass.result c.tell.new.telling.engine.server c.pass.new.telling.engine.server
    (standing_of c.tell.new.telling.engine) c.args.at c.tell.new.listener
    (IsSpent (g.I.TellingReader.has_failed c.tell.new.reader) c.pass.new.telling.lines.asks) (g.L.Listener.gave_up c.pass.new.listener)
    c.pass.ensures.server c.in-Ok.ensures.told c.pass.ensures.refused

pub returns-in-Ok-clause-asked : goal.returns-in-Ok-clause-asked
returns-in-Ok-clause-asked g c = rw c.pass.ensures.lines c.tell.ensures.asked
