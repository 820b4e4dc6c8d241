use Rattle.std.proofs.Common.{sym, subst, ◌∙◌, ap}
use Rattle.sip_replay_script.specs.Events.{is_dot}
use Rattle.sip_replay_script.specs.Lines.{IsSpent, pending}
use Rattle.sip_replay_script.specs.Recorded.{dot_stop, DotStops}
use Rattle.sip_replay_script.proofs.RecordTexts.{line_no_dot, no_dot_stops}
use Rattle.sip_replay_script.proofs.recorded_event.pass_dot.Goals as goal

pub returns-in-Err-clause-stopped : goal.returns-in-Err-clause-stopped
returns-in-Err-clause-stopped g c =
    subst (λ stop. DotStops (IsSpent (g.R.TellingReader.has_failed c.next.new.reader) c.next.new.self.asks)
    (pending c.args.lines.now (g.R.TellingReader.remaining c.args.reader.now)) stop)
    (sym (c.dot_stop.ensures ∙ ap (λ line. dot_stop line c.in-Err.stop) c.deref.ensures.value))
    (no_dot_stops (IsSpent (g.R.TellingReader.has_failed c.next.new.reader) c.next.new.self.asks)
    (pending c.args.lines.now (g.R.TellingReader.remaining c.args.reader.now)) c.next.new.line.items c.in-Err.stop c.in-Err.ensures.stopped)

pub returns-then-not-is_dot-clause-stopped : goal.returns-then-not-is_dot-clause-stopped
returns-then-not-is_dot-clause-stopped g c =
    line_no_dot c.args.lines.now c.next.new.self (g.R.TellingReader.remaining c.args.reader.now) (g.R.TellingReader.remaining c.next.new.reader) c.next.new.line.items
    (c.in-Ok.ensures.given c.if-not-more.false)
    (ap is_dot (sym c.deref-2.ensures.value) ∙ sym c.is_dot.ensures ∙ c.if-not-is_dot.true)
