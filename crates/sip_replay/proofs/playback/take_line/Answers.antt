use Rattle.std.proofs.lemmas.Result.{err_from_is_err_and}
use Rattle.sip_resume.specs.run.Due.{standing_of}
use Rattle.sip_replay_script.specs.Devices.{GaveUp}
use Rattle.sip_replay_script.specs.Script.{event_of}
use Rattle.sip_replay.proofs.Running.{plays_event}
use Rattle.sip_replay.proofs.Stopping.{taking_unfired, taking_refused, taking_unprinted}
use Rattle.sip_replay.proofs.playback.take_line.Goals as goal

pub returns-clause-taken : goal.returns-clause-taken
returns-clause-taken g c =
    plays_event c.args.engine.now.server c.fire_due.new.engine.server (standing_of c.args.engine.now) (standing_of c.fire_due.new.engine)
    (standing_of c.own_step.new.engine) c.line_moment.result (event_of c.args.line.now c.args.bytes.now) c.in_ok-out.out
    (g.W.TellingWriter.contents c.args.writer.now) (g.W.TellingWriter.contents c.fire_due.new.writer) (g.W.TellingWriter.contents c.print_step.new.writer)
    c.fire_due.ensures.server (c.line_moment.ensures c.args.bytes.now) c.in_ok-fire_due.ensures.fired c.in_ok-fire_due.ensures.none_due c.in_ok-out.ensures.step
    c.in_ok-out.ensures.queue c.in_ok-print_step.ensures.ok

pub returns-in_err-fire_due-clause-stopped : goal.returns-in_err-fire_due-clause-stopped
returns-in_err-fire_due-clause-stopped g c =
    let p = err_from_is_err_and c.from_residual.result c.from_residual.ensures.1 in
    rw (p.1, p.2) (taking_unfired c.args.engine.now.server (standing_of c.args.engine.now) c.line_moment.result (event_of c.args.line.now c.args.bytes.now)
    (g.W.TellingWriter.contents c.args.writer.now) (g.W.TellingWriter.contents c.fire_due.new.writer)
    (GaveUp (g.W.TellingWriter.has_failed c.fire_due.new.writer) (g.W.TellingWriter.called c.fire_due.new.writer)) c.in_err-fire_due.field-0.0
    (c.line_moment.ensures c.args.bytes.now) c.in_err-fire_due.ensures.stopped)

pub returns-in_err-out-clause-stopped : goal.returns-in_err-out-clause-stopped
returns-in_err-out-clause-stopped g c =
    let p = err_from_is_err_and c.from_residual-in_err-out.result c.from_residual-in_err-out.ensures.1 in
    rw (p.1, p.2) (taking_refused c.args.engine.now.server (standing_of c.args.engine.now) (standing_of c.fire_due.new.engine) c.line_moment.result
    (event_of c.args.line.now c.args.bytes.now) (g.W.TellingWriter.contents c.args.writer.now) (g.W.TellingWriter.contents c.fire_due.new.writer)
    (GaveUp (g.W.TellingWriter.has_failed c.fire_due.new.writer) (g.W.TellingWriter.called c.fire_due.new.writer)) c.in_err-out.field-0.0
    (c.line_moment.ensures c.args.bytes.now) c.in_ok-fire_due.ensures.fired c.in_err-out.ensures.refused)

pub returns-in_err-print_step-clause-stopped : goal.returns-in_err-print_step-clause-stopped
returns-in_err-print_step-clause-stopped g c =
    let p = err_from_is_err_and c.from_residual-in_err-print_step.result c.from_residual-in_err-print_step.ensures.1 in
    rw (p.1, p.2) (taking_unprinted c.args.engine.now.server c.fire_due.new.engine.server (standing_of c.args.engine.now) (standing_of c.fire_due.new.engine)
    (standing_of c.own_step.new.engine) c.line_moment.result (event_of c.args.line.now c.args.bytes.now) c.in_ok-out.out
    (g.W.TellingWriter.contents c.args.writer.now) (g.W.TellingWriter.contents c.fire_due.new.writer) (g.W.TellingWriter.contents c.print_step.new.writer)
    (GaveUp (g.W.TellingWriter.has_failed c.print_step.new.writer) (g.W.TellingWriter.called c.print_step.new.writer)) c.in_err-print_step.field-0.0
    c.fire_due.ensures.server (c.line_moment.ensures c.args.bytes.now) c.in_ok-fire_due.ensures.fired c.in_ok-fire_due.ensures.none_due c.in_ok-out.ensures.step
    c.in_err-print_step.ensures.front c.in_err-print_step.ensures.stopped)
