use Rattle.std.proofs.Common.{subst}
use Rattle.sip_replay_script.specs.Events.{StopsAt}
use Rattle.sip_replay_script.specs.Lines.{IsSpent, pending}
use Rattle.sip_replay_script.proofs.Damaged.{no_line_stops}
use Rattle.sip_replay_script.proofs.event.parted_line.Goals as goal

pub returns-in-Err-clause-stopped : goal.returns-in-Err-clause-stopped
returns-in-Err-clause-stopped g c =
    no_line_stops (IsSpent (g.R.TellingReader.has_failed c.next.new.reader) c.next.new.self.asks)
    (pending c.args.lines.now (g.R.TellingReader.remaining c.args.reader.now)) c.next.new.line.items c.in-Err.stop c.stop_at.result
    c.in-Err.ensures.stopped (subst (λ line. StopsAt line c.in-Err.stop c.stop_at.result) c.deref.ensures.value c.stop_at.ensures)
