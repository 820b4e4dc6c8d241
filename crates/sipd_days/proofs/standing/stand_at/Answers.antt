use Rattle.std.specs.Prelude.{option_map}
use Rattle.sipd_telling.specs.run.Due.{standing_of}
use Rattle.sip_replay_script.specs.Lines.{pending}
use Rattle.sipd_report.specs.Said.{moment_at}
use Rattle.sipd_days.proofs.Stood.{there}
use Rattle.sipd_days.proofs.standing.stand_at.Goals as goal

pub returns-in-Ok-clause-reached : goal.returns-in-Ok-clause-reached
returns-in-Ok-clause-reached g c =
    there g.L.Listener.hears g.L.Listener.refuses c.args.telling.now.engine.server (standing_of c.args.telling.now.engine)
    (standing_of c.tell_to.new.telling.engine) (pending c.args.telling.now.lines (g.I.TellingReader.remaining c.args.events.now)) c.args.telling.now.lines.number
    c.args.listener.now c.tell_to.new.listener c.tell_to.new.telling.engine.server c.moment_of-moment.result
    (option_map (λ t. moment_at t c.args.clock.ahead) c.args.time) c.moment_there.result c.moment_of-moment.ensures c.in-Ok.ensures.told c.moment_there.ensures
