use Rattle.std.proofs.Common.{◌≡◌, arith}
use Rattle.sip_replay_script.specs.Lines.{IsSpent, pending}
use Rattle.sip_journal.specs.declared.upcoming.Upcoming.TheVariants.{Configuration, Event}
use Rattle.sip_segment_config.proofs.SoFar.{comes_configuration, comes_event, event_refused, given_behind}
use Rattle.sip_segment_config.proofs.last_text.next_part.Goals as goal

pub returns-in-Ok-Event-clause-given : goal.returns-in-Ok-Event-clause-given
returns-in-Ok-Event-clause-given g c =
    let here : c.in-Ok-Event.field-0 ≡ Event = grind (arith, c.in-Ok-Event.is, c.in-Ok-Event.field-0-is) in
    let next = comes_event c.in-Ok-Event.field-0 c.args.lines.now c.look_ahead.new.lines (g.I.TellingReader.remaining c.args.reader.now)
    (g.I.TellingReader.remaining c.look_ahead.new.reader) here c.in-Ok-Event.ensures.next in
    given_behind c.args.longest c.pass_event.result c.args.lines.now c.look_ahead.new.lines c.pass_event.new.lines (g.I.TellingReader.remaining c.args.reader.now)
    (g.I.TellingReader.remaining c.look_ahead.new.reader) (g.I.TellingReader.remaining c.pass_event.new.reader) next.0 c.look_ahead.ensures.number
    c.in-Ok-Event.ensures.fewer (c.pass_event.ensures.passed c.args.longest)

pub returns-in-Ok-Event-clause-refused : goal.returns-in-Ok-Event-clause-refused
returns-in-Ok-Event-clause-refused g c =
    let here : c.in-Ok-Event.field-0 ≡ Event = grind (arith, c.in-Ok-Event.is, c.in-Ok-Event.field-0-is) in
    let next = comes_event c.in-Ok-Event.field-0 c.args.lines.now c.look_ahead.new.lines (g.I.TellingReader.remaining c.args.reader.now)
    (g.I.TellingReader.remaining c.look_ahead.new.reader) here c.in-Ok-Event.ensures.next in
    event_refused c.args.longest (IsSpent (g.I.TellingReader.has_failed c.pass_event.new.reader) c.pass_event.new.lines.asks) c.pass_event.result
    (pending c.args.lines.now (g.I.TellingReader.remaining c.args.reader.now)) (pending c.look_ahead.new.lines (g.I.TellingReader.remaining c.look_ahead.new.reader))
    c.args.lines.now.number c.look_ahead.new.lines.number next.0
    c.look_ahead.ensures.number next.1 (c.pass_event.ensures.refused c.args.longest)

pub returns-in-Ok-Configuration-clause-given : goal.returns-in-Ok-Configuration-clause-given
returns-in-Ok-Configuration-clause-given g c =
    let here : c.in-Ok-Configuration.field-0 ≡ Configuration = grind (arith, c.in-Ok-Configuration.is, c.in-Ok-Configuration.field-0-is) in
    let next = comes_configuration c.in-Ok-Configuration.field-0 c.args.lines.now c.look_ahead.new.lines (g.I.TellingReader.remaining c.args.reader.now)
    (g.I.TellingReader.remaining c.look_ahead.new.reader) here c.in-Ok-Configuration.ensures.next in
    given_behind c.args.longest c.read_text.result c.args.lines.now c.look_ahead.new.lines c.read_text.new.lines (g.I.TellingReader.remaining c.args.reader.now)
    (g.I.TellingReader.remaining c.look_ahead.new.reader) (g.I.TellingReader.remaining c.read_text.new.reader) next.0 c.look_ahead.ensures.number
    c.in-Ok-Configuration.ensures.fewer c.read_text.ensures.given
