use Rattle.std.specs.Prelude.{option_map}
use Rattle.sipd_sources.specs.Told.{adds_sources, none as no_sources}
use Rattle.sipd_days.specs.DayAt.{forgets_sources, sources_in}
use Rattle.sip_replay_script.specs.Lines.{IsSpent, pending}
use Rattle.sipd_telling.specs.run.Due.{standing_of}
use Rattle.sipd_report.specs.Said.{moment_at}
use Rattle.sipd_days.proofs.Timed.{told_day}
use Rattle.sipd_days.proofs.day_at.tell_sources.Goals as goal

pub returns-clause-told : goal.returns-clause-told
returns-clause-told g c =
    told_day adds_sources forgets_sources (no_sources c.args.filter) (sources_in c.args.form) c.args.telling.now.engine.server c.stand_at.new.telling.engine.server
    (standing_of c.args.telling.now.engine) (standing_of c.stand_at.new.telling.engine)
    (IsSpent (g.I.TellingReader.has_failed c.stand_at.new.events) c.stand_at.new.telling.lines.asks)
    (pending c.args.telling.now.lines (g.I.TellingReader.remaining c.args.events.now)) c.args.telling.now.lines.number
    (option_map (λ t. moment_at t c.args.taken.ahead) c.args.time) c.stand_at.new.listener c.in_ok-reached.reached.at c.sources_in-text.result c.day_of.result
    c.clock_in.result.ahead c.in_ok-reached.reached.end (rw c.new-sources.ensures at c.in_ok-reached.ensures.reached) c.clock_in.ensures
    c.sources_in-text.ensures c.day_of.ensures.text c.day_of.ensures.in_force c.day_of.ensures.end
