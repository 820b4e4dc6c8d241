use Rattle.std.proofs.Common.{◌≡◌, arith}
use Rattle.sip_journal.specs.declared.upcoming.Upcoming.TheVariants.{Configuration, Event}
use Rattle.sip_segment_config.proofs.SoFar.{comes_configuration, comes_event}
use Rattle.sipd_tools.proofs.Clocked.{ends_behind, said_behind}
use Rattle.sipd_tools.proofs.clocks.next_part.Goals as goal

pub returns-in-Ok-Event-clause-said : goal.returns-in-Ok-Event-clause-said
returns-in-Ok-Event-clause-said g c =
    let here : c.in-Ok-Event.field-0 ≡ Event = grind (arith, c.in-Ok-Event.is, c.in-Ok-Event.field-0-is) in
    let next = comes_event c.in-Ok-Event.field-0 c.args.lines.now c.look_ahead.new.lines (g.I.TellingReader.remaining c.args.events.now)
    (g.I.TellingReader.remaining c.look_ahead.new.reader) here c.in-Ok-Event.ensures.next in
    said_behind c.pass_event.result _ _ _ next.0 c.pass_event.ensures.said

pub returns-in-Ok-Event-clause-over : goal.returns-in-Ok-Event-clause-over
returns-in-Ok-Event-clause-over g c =
    let here : c.in-Ok-Event.field-0 ≡ Event = grind (arith, c.in-Ok-Event.is, c.in-Ok-Event.field-0-is) in
    let next = comes_event c.in-Ok-Event.field-0 c.args.lines.now c.look_ahead.new.lines (g.I.TellingReader.remaining c.args.events.now)
    (g.I.TellingReader.remaining c.look_ahead.new.reader) here c.in-Ok-Event.ensures.next in
    ends_behind c.pass_event.result _ _ next.0 c.pass_event.ensures.over

pub returns-in-Ok-Configuration-clause-said : goal.returns-in-Ok-Configuration-clause-said
returns-in-Ok-Configuration-clause-said g c =
    let here : c.in-Ok-Configuration.field-0 ≡ Configuration = grind (arith, c.in-Ok-Configuration.is, c.in-Ok-Configuration.field-0-is) in
    let next = comes_configuration c.in-Ok-Configuration.field-0 c.args.lines.now c.look_ahead.new.lines (g.I.TellingReader.remaining c.args.events.now)
    (g.I.TellingReader.remaining c.look_ahead.new.reader) here c.in-Ok-Configuration.ensures.next in
    said_behind c.read_clock.result _ _ _ next.0 c.read_clock.ensures.said

pub returns-in-Ok-Configuration-clause-over : goal.returns-in-Ok-Configuration-clause-over
returns-in-Ok-Configuration-clause-over g c =
    let here : c.in-Ok-Configuration.field-0 ≡ Configuration = grind (arith, c.in-Ok-Configuration.is, c.in-Ok-Configuration.field-0-is) in
    let next = comes_configuration c.in-Ok-Configuration.field-0 c.args.lines.now c.look_ahead.new.lines (g.I.TellingReader.remaining c.args.events.now)
    (g.I.TellingReader.remaining c.look_ahead.new.reader) here c.in-Ok-Configuration.ensures.next in
    ends_behind c.read_clock.result _ _ next.0 c.read_clock.ensures.over
