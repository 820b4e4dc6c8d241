use Rattle.std.proofs.Common.{◌≡◌, arith, inr}
use Rattle.std.proofs.lemmas.Result.{err_from_is_err_and}
use Rattle.sip_replay_script.specs.Lines.{IsSpent}
use Rattle.sip_journal.specs.declared.upcoming.Upcoming.TheVariants.{Event, Over}
use Rattle.sipd_old_record.proofs.Owned.{event_none, event_was, neither_stops, none_ahead, over_so, own_ahead, stops_ahead}
use Rattle.sipd_old_record.proofs.record_configuration.own_configuration.Goals as goal

pub returns-in-Ok-Over-clause-none : goal.returns-in-Ok-Over-clause-none
returns-in-Ok-Over-clause-none g c =
    let here : c.in-Ok-Over.field-0 ≡ Over = grind (arith, c.in-Ok-Over.is, c.in-Ok-Over.field-0-is) in
    over_so c.in-Ok-Over.field-0 c.args.lines.now c.look_ahead.new.lines (g.I.TellingReader.remaining c.args.reader.now)
    (g.I.TellingReader.remaining c.look_ahead.new.reader) here c.in-Ok-Over.ensures.next

pub returns-in-Ok-Configuration-clause-own : goal.returns-in-Ok-Configuration-clause-own
returns-in-Ok-Configuration-clause-own g c =
    own_ahead c.read_own.result c.args.head.now.digest c.in-Ok-Configuration.field-0 c.args.lines.now c.look_ahead.new.lines c.read_own.new.lines
    (g.I.TellingReader.remaining c.args.reader.now) (g.I.TellingReader.remaining c.look_ahead.new.reader) (g.I.TellingReader.remaining c.read_own.new.reader)
    c.in-Ok-Configuration.ensures.next
    c.look_ahead.ensures.number c.in-Ok-Configuration.ensures.fewer c.read_own.ensures.own

pub returns-in-Ok-Configuration-clause-none : goal.returns-in-Ok-Configuration-clause-none
returns-in-Ok-Configuration-clause-none g c =
    none_ahead c.read_own.result c.in-Ok-Configuration.field-0 c.args.lines.now c.look_ahead.new.lines c.read_own.new.lines
    (g.I.TellingReader.remaining c.args.reader.now) (g.I.TellingReader.remaining c.look_ahead.new.reader) (g.I.TellingReader.remaining c.read_own.new.reader)
    c.in-Ok-Configuration.ensures.next c.read_own.ensures.over

pub returns-in-Ok-Configuration-clause-refused : goal.returns-in-Ok-Configuration-clause-refused
returns-in-Ok-Configuration-clause-refused g c =
    stops_ahead c.read_own.result c.args.head.now.digest (IsSpent (g.I.TellingReader.has_failed c.read_own.new.reader) c.read_own.new.lines.asks)
    c.in-Ok-Configuration.field-0 c.args.lines.now c.look_ahead.new.lines (g.I.TellingReader.remaining c.args.reader.now)
    (g.I.TellingReader.remaining c.look_ahead.new.reader) c.in-Ok-Configuration.ensures.next
    c.look_ahead.ensures.number c.read_own.ensures.refused

pub returns-in_ok-check_event-in-Ok-Event-clause-none : goal.returns-in_ok-check_event-in-Ok-Event-clause-none
returns-in_ok-check_event-in-Ok-Event-clause-none g c =
    let here : c.in-Ok-Event.field-0 ≡ Event = grind (arith, c.in-Ok-Event.is, c.in-Ok-Event.field-0-is) in
    event_none c.in-Ok-Event.field-0 c.args.lines.now c.look_ahead.new.lines c.check_event.new.lines (g.I.TellingReader.remaining c.args.reader.now)
    (g.I.TellingReader.remaining c.look_ahead.new.reader) (g.I.TellingReader.remaining c.check_event.new.reader) here c.in-Ok-Event.ensures.next
    c.in_ok-check_event-in-Ok-Event.ensures.kept
    (event_was c.in-Ok-Event.field-0 c.args.lines.now c.look_ahead.new.lines (g.I.TellingReader.remaining c.args.reader.now)
    (g.I.TellingReader.remaining c.look_ahead.new.reader) c.in-Ok-Event.ensures.next c.in_ok-check_event-in-Ok-Event.ensures.event)

pub returns-in_err-check_event-in-Ok-Event-clause-refused : goal.returns-in_err-check_event-in-Ok-Event-clause-refused
returns-in_err-check_event-in-Ok-Event-clause-refused g c =
    let here : c.in-Ok-Event.field-0 ≡ Event = grind (arith, c.in-Ok-Event.is, c.in-Ok-Event.field-0-is) in
    let p = err_from_is_err_and c.from_residual.result c.from_residual.ensures.1 in
    rw (p.1, p.2) (neither_stops c.args.head.now.digest (IsSpent (g.I.TellingReader.has_failed c.check_event.new.reader) c.check_event.new.lines.asks)
    c.in-Ok-Event.field-0 c.args.lines.now c.look_ahead.new.lines (g.I.TellingReader.remaining c.args.reader.now)
    (g.I.TellingReader.remaining c.look_ahead.new.reader) c.in_err-check_event-in-Ok-Event.field-0.0 here
    c.in-Ok-Event.ensures.next c.in-Ok-Event.ensures.first c.look_ahead.ensures.number c.in_err-check_event-in-Ok-Event.ensures.refused)

pub returns-in-Err-clause-refused : goal.returns-in-Err-clause-refused
returns-in-Err-clause-refused g c =
    inr (inr c.in-Err.ensures.stopped.1)
