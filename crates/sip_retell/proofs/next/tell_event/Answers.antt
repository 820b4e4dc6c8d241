use Rattle.std.proofs.Common.{◌∙◌, sym}
use Rattle.std.proofs.lemmas.Result.{err_from_is_err_and}
use Rattle.sip_replay_script.specs.Lines.{IsSpent, pending}
use Rattle.sip_resume.proofs.Segmentwise.{none_waits}
use Rattle.sip_resume.specs.run.Due.{standing_of}
use Rattle.sip_retell.proofs.Nexts.{event_later, event_over, event_told, turn_stops, unread_stops}
use Rattle.sip_retell.proofs.next.tell_event.Goals as goal

pub returns-in_err-event-clause-refused : goal.returns-in_err-event-clause-refused
returns-in_err-event-clause-refused g c =
    let p = err_from_is_err_and c.from_residual.result c.from_residual.ensures.1 in
    rw (p.1, p.2) (unread_stops g.L.Listener.hears g.L.Listener.refuses (IsSpent
    (g.I.TellingReader.has_failed c.read_next.new.reader) c.read_next.new.lines.asks) c.args.engine.now.server
    (standing_of c.args.engine.now) c.args.lines.now.number (pending c.args.lines.now (g.I.TellingReader.remaining c.args.reader.now)) c.args.until
    c.args.listener.now c.in_err-event.field-0.0 c.in_err-event.ensures.refused)

pub returns-in_default-clause-next : goal.returns-in_default-clause-next
returns-in_default-clause-next g c =
    event_over c.args.engine.now.server (standing_of c.args.engine.now) (pending c.args.lines.now (g.I.TellingReader.remaining c.args.reader.now)) c.args.until
    c.args.listener.now (none_waits c.in_ok-event.field-0 c.in_default.is c.in_ok-event.ensures.over)

pub returns-then-is_later-clause-next : goal.returns-then-is_later-clause-next
returns-then-is_later-clause-next g c =
    event_later c.args.engine.now.server (standing_of c.args.engine.now) c.args.lines.now c.read_next.new.lines (g.I.TellingReader.remaining c.args.reader.now)
    (g.I.TellingReader.remaining c.read_next.new.reader) c.in-Some.event c.args.until c.event_moment-at.result c.args.listener.now
    c.event_moment-at.ensures (sym c.is_later.ensures ∙ c.if-is_later.true) (rw c.in-Some.is at c.in_ok-event.ensures.given)

pub returns-in_err-tell_in_turn-clause-refused : goal.returns-in_err-tell_in_turn-clause-refused
returns-in_err-tell_in_turn-clause-refused g c =
    let p = err_from_is_err_and c.from_residual-in_err-tell_in_turn.result c.from_residual-in_err-tell_in_turn.ensures.1 in
    rw (p.1, p.2) (turn_stops g.L.Listener.hears g.L.Listener.refuses (IsSpent
    (g.I.TellingReader.has_failed c.read_next.new.reader) c.read_next.new.lines.asks) c.args.engine.now.server
    (standing_of c.args.engine.now) (standing_of c.tell_in_turn.new.engine) c.args.lines.now c.read_next.new.lines
    (g.I.TellingReader.remaining c.args.reader.now) (g.I.TellingReader.remaining c.read_next.new.reader) c.args.lines.now.number c.in-Some.event c.args.until
    c.event_moment-at.result c.args.listener.now c.tell_in_turn.new.listener c.in_err-tell_in_turn.field-0.0
    c.event_moment-at.ensures (sym c.is_later.ensures ∙ c.if-is_later.false) (rw c.in-Some.is at c.in_ok-event.ensures.given) c.in_err-tell_in_turn.ensures.stopped)

pub returns-clause-next : goal.returns-clause-next
returns-clause-next g c =
    event_told g.L.Listener.hears c.args.engine.now.server (standing_of c.args.engine.now)
    (standing_of c.tell_in_turn.new.engine) c.args.lines.now c.read_next.new.lines
    (g.I.TellingReader.remaining c.args.reader.now) (g.I.TellingReader.remaining c.read_next.new.reader) c.in-Some.event c.args.until c.event_moment-at.result
    c.args.listener.now c.tell_in_turn.new.listener c.event_moment-at.ensures
    (sym c.is_later.ensures ∙ c.if-is_later.false) (rw c.in-Some.is at c.in_ok-event.ensures.given) c.in_ok-tell_in_turn.ensures.told
