use Rattle.std.proofs.Common.{◌≡◌, arith}
use Rattle.sip_resume.specs.run.Due.{standing_of}
use Rattle.sip_replay_script.specs.Lines.{IsSpent, pending}
use Rattle.sip_journal.specs.declared.upcoming.Upcoming.TheVariants.{Configuration, Event, Over}
use Rattle.sip_retell.proofs.Nexts.{comes_configuration, comes_event, comes_over, configuration_given, configuration_refused, event_given, event_stopped}
use Rattle.sip_retell.proofs.Nexts.{err_always, no_listener, over_here, server_kept}
use Rattle.sip_retell.proofs.next.tell_next.Goals as goal

pub returns-in-Ok-Over-clause-next : goal.returns-in-Ok-Over-clause-next
returns-in-Ok-Over-clause-next g c =
    let here : c.in-Ok-Over.field-0 ≡ Over = grind (arith, c.in-Ok-Over.is, c.in-Ok-Over.field-0-is) in
    over_here c.args.engine.now.server (standing_of c.args.engine.now) c.args.lines.now c.look_ahead.new.lines (g.I.TellingReader.remaining c.args.reader.now)
    (g.I.TellingReader.remaining c.look_ahead.new.reader) c.args.until c.args.listener.now
    (comes_over c.in-Ok-Over.field-0 c.args.lines.now c.look_ahead.new.lines (g.I.TellingReader.remaining c.args.reader.now)
    (g.I.TellingReader.remaining c.look_ahead.new.reader) here c.in-Ok-Over.ensures.next)

pub returns-in-Ok-Configuration-clause-next : goal.returns-in-Ok-Configuration-clause-next
returns-in-Ok-Configuration-clause-next g c =
    let here : c.in-Ok-Configuration.field-0 ≡ Configuration = grind (arith, c.in-Ok-Configuration.is, c.in-Ok-Configuration.field-0-is) in
    let next = comes_configuration c.in-Ok-Configuration.field-0 c.args.lines.now c.look_ahead.new.lines (g.I.TellingReader.remaining c.args.reader.now)
    (g.I.TellingReader.remaining c.look_ahead.new.reader) here c.in-Ok-Configuration.ensures.next in
    configuration_given g.L.Listener.hears c.tell_configuration.result c.args.engine.now c.tell_configuration.new.engine c.args.lines.now c.look_ahead.new.lines
    c.tell_configuration.new.lines (g.I.TellingReader.remaining c.args.reader.now) (g.I.TellingReader.remaining c.look_ahead.new.reader)
    (g.I.TellingReader.remaining c.tell_configuration.new.reader) c.args.until c.args.listener.now next.0 c.look_ahead.ensures.number
    c.in-Ok-Configuration.ensures.fewer c.tell_configuration.ensures.next

pub returns-in-Ok-Configuration-clause-refused : goal.returns-in-Ok-Configuration-clause-refused
returns-in-Ok-Configuration-clause-refused g c =
    let here : c.in-Ok-Configuration.field-0 ≡ Configuration = grind (arith, c.in-Ok-Configuration.is, c.in-Ok-Configuration.field-0-is) in
    let next = comes_configuration c.in-Ok-Configuration.field-0 c.args.lines.now c.look_ahead.new.lines (g.I.TellingReader.remaining c.args.reader.now)
    (g.I.TellingReader.remaining c.look_ahead.new.reader) here c.in-Ok-Configuration.ensures.next in
    configuration_refused g.L.Listener.hears g.L.Listener.refuses c.tell_configuration.result
    (IsSpent (g.I.TellingReader.has_failed c.tell_configuration.new.reader) c.tell_configuration.new.lines.asks) c.args.engine.now
    c.tell_configuration.new.engine c.args.longest c.args.lines.now c.look_ahead.new.lines (g.I.TellingReader.remaining c.args.reader.now)
    (g.I.TellingReader.remaining c.look_ahead.new.reader) c.args.until c.args.listener.now next.0 c.look_ahead.ensures.number next.1
    c.tell_configuration.ensures.unchanged c.tell_configuration.ensures.refused

pub returns-in-Ok-Event-clause-next : goal.returns-in-Ok-Event-clause-next
returns-in-Ok-Event-clause-next g c =
    let here : c.in-Ok-Event.field-0 ≡ Event = grind (arith, c.in-Ok-Event.is, c.in-Ok-Event.field-0-is) in
    let next = comes_event c.in-Ok-Event.field-0 c.args.lines.now c.look_ahead.new.lines (g.I.TellingReader.remaining c.args.reader.now)
    (g.I.TellingReader.remaining c.look_ahead.new.reader) here c.in-Ok-Event.ensures.next in
    event_given g.L.Listener.hears c.tell_event.result c.args.engine.now.server c.tell_event.new.engine.server (standing_of c.args.engine.now)
    (standing_of c.tell_event.new.engine) c.args.lines.now c.look_ahead.new.lines c.tell_event.new.lines (g.I.TellingReader.remaining c.args.reader.now)
    (g.I.TellingReader.remaining c.look_ahead.new.reader) (g.I.TellingReader.remaining c.tell_event.new.reader) c.args.until c.args.listener.now
    c.tell_event.new.listener c.tell_event.ensures.server next.0 c.look_ahead.ensures.number c.in-Ok-Event.ensures.fewer c.tell_event.ensures.next

pub returns-in-Ok-Event-clause-refused : goal.returns-in-Ok-Event-clause-refused
returns-in-Ok-Event-clause-refused g c =
    let here : c.in-Ok-Event.field-0 ≡ Event = grind (arith, c.in-Ok-Event.is, c.in-Ok-Event.field-0-is) in
    let next = comes_event c.in-Ok-Event.field-0 c.args.lines.now c.look_ahead.new.lines (g.I.TellingReader.remaining c.args.reader.now)
    (g.I.TellingReader.remaining c.look_ahead.new.reader) here c.in-Ok-Event.ensures.next in
    event_stopped g.L.Listener.hears g.L.Listener.refuses c.tell_event.result
    (IsSpent (g.I.TellingReader.has_failed c.tell_event.new.reader) c.tell_event.new.lines.asks) c.args.engine.now.server (standing_of c.args.engine.now)
    (standing_of c.tell_event.new.engine) c.args.longest c.args.lines.now c.look_ahead.new.lines (g.I.TellingReader.remaining c.args.reader.now)
    (g.I.TellingReader.remaining c.look_ahead.new.reader) c.args.until c.args.listener.now c.tell_event.new.listener next.0 c.look_ahead.ensures.number next.1
    c.tell_event.ensures.refused

pub returns-in-Ok-Configuration-clause-same : goal.returns-in-Ok-Configuration-clause-same
returns-in-Ok-Configuration-clause-same g c =
    server_kept c.tell_configuration.result c.args.engine.now c.tell_configuration.new.engine c.tell_configuration.ensures.unchanged

pub returns-in-Ok-Configuration-clause-gave_up : goal.returns-in-Ok-Configuration-clause-gave_up
returns-in-Ok-Configuration-clause-gave_up g c = λ e.
    absurd (no_listener c.args.engine.now.server c.args.longest
    (IsSpent (g.I.TellingReader.has_failed c.tell_configuration.new.reader) c.tell_configuration.new.lines.asks)
    (pending c.look_ahead.new.lines (g.I.TellingReader.remaining c.look_ahead.new.reader)) c.look_ahead.new.lines.number c.tell_configuration.result
    c.tell_configuration.ensures.refused e)

pub returns-in-Ok-Event-clause-same : goal.returns-in-Ok-Event-clause-same
returns-in-Ok-Event-clause-same g c = err_always c.tell_event.result c.tell_event.ensures.server
