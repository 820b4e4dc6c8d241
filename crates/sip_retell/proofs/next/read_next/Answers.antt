use Rattle.std.proofs.Common.{◌+◌, ap}
use Rattle.std.proofs.lemmas.Result.{err_from_is_err_and}
use Rattle.sip_replay_script.specs.Lines.{IsSpent, pending}
use Rattle.sip_retell.proofs.Nexts.{cut_ends, none_ends, unread_so}
use Rattle.sip_retell.proofs.next.read_next.Goals as goal

pub returns-in-Ok-clause-over : goal.returns-in-Ok-clause-over
returns-in-Ok-clause-over g c =
    none_ends c.in-Ok.found c.args.lines.now c.next_recorded.new.lines (g.I.TellingReader.remaining c.args.reader.now)
    (g.I.TellingReader.remaining c.next_recorded.new.reader) c.in-Ok.ensures.over

pub returns-in_ok-end_at-in-Err-clause-over : goal.returns-in_ok-end_at-in-Err-clause-over
returns-in_ok-end_at-in-Err-clause-over g c =
    cut_ends (IsSpent (g.I.TellingReader.has_failed c.next_recorded.new.reader) c.next_recorded.new.lines.asks)
    (pending c.args.lines.now (g.I.TellingReader.remaining c.args.reader.now)) c.in-Err.stop (c.number-first.result + 1)
    c.in_ok-end_at-in-Err.field-0 c.in-Err.ensures.stopped c.in_ok-end_at-in-Err.ensures

pub returns-in_err-end_at-in-Err-clause-refused : goal.returns-in_err-end_at-in-Err-clause-refused
returns-in_err-end_at-in-Err-clause-refused g c =
    let p = err_from_is_err_and c.from_residual.result c.from_residual.ensures.1 in
    rw (p.1, p.2) (unread_so (IsSpent (g.I.TellingReader.has_failed c.next_recorded.new.reader) c.next_recorded.new.lines.asks)
    (pending c.args.lines.now (g.I.TellingReader.remaining c.args.reader.now)) c.args.lines.now.number c.in-Err.stop
    (c.number-first.result + 1) c.in_err-end_at-in-Err.field-0.0 (ap (λ n. n + 1) c.number-first.ensures.value) c.in-Err.ensures.stopped c.in_err-end_at-in-Err.ensures)
