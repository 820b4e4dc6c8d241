use Rattle.std.proofs.lemmas.Result.{err_from_is_err_and}
use Rattle.sip_replay_script.specs.Lines.{pending, IsSpent}
use Rattle.sip_replay_script.proofs.LineEnds.{over_stops, part_stops_line}
use Rattle.sip_replay_script.proofs.lines.ScriptLines.next.Goals as goal

pub returns-then-not-branch-clause-stopped : goal.returns-then-not-branch-clause-stopped
returns-then-not-branch-clause-stopped g c =
    over_stops (IsSpent (g.R.TellingReader.has_failed c.fill.new.reader) c.fill.new.self.asks) (pending c.args.self.now (g.R.TellingReader.remaining c.args.reader.now))
    (pending c.loop-line.self (g.R.TellingReader.remaining c.loop-line.reader)) (pending c.fill.new.self (g.R.TellingReader.remaining c.fill.new.reader))
    c.loop-line.line.items c.deref.result.now c.over.result
    c.loop-line.invariant.0 c.in_ok-fill.ensures.kept (c.in_ok-fill.ensures.end c.if-not-branch.true) c.loop-line.invariant.1 c.deref.ensures.value c.over.ensures.stopped

pub returns-in_err-take_part-clause-stopped : goal.returns-in_err-take_part-clause-stopped
returns-in_err-take_part-clause-stopped g c =
    let p = err_from_is_err_and c.from_residual-in_err-take_part.result c.from_residual-in_err-take_part.ensures.1 in
    rw (p.1, p.2) (part_stops_line (IsSpent (g.R.TellingReader.has_failed c.fill.new.reader) c.take_part.new.self.asks)
    (pending c.args.self.now (g.R.TellingReader.remaining c.args.reader.now))
    (pending c.loop-line.self (g.R.TellingReader.remaining c.loop-line.reader)) c.fill.new.self (g.R.TellingReader.remaining c.fill.new.reader) c.loop-line.line.items
    c.take_part.new.line.items c.in_err-take_part.field-0.0
    c.loop-line.invariant.0 c.in_ok-fill.ensures.kept c.loop-line.invariant.1 c.in_err-take_part.ensures.stopped)
