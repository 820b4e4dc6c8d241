use Rattle.std.proofs.Common.{refl, ◌∙◌, Some}
use Rattle.std.proofs.lemmas.Result.{err_from_is_err_and}
use Rattle.sip_resume.specs.run.Due.{standing_of}
use Rattle.sip_replay_script.specs.Devices.{GaveUp}
use Rattle.sip_replay.proofs.Running.{plays_nothing, plays_firing}
use Rattle.sip_replay.proofs.Stopping.{firing_refused, firing_unprinted}
use Rattle.sip_replay.proofs.due_steps.fire_due.Goals as goal

pub loop-out-init : goal.loop-out-init
loop-out-init g c = (refl, plays_nothing c.args.engine.now.server (standing_of c.args.engine.now) (Some c.args.at) (g.W.TellingWriter.contents c.args.writer.now))

pub loop-out-preserved : goal.loop-out-preserved
loop-out-preserved g c = (
  c.fire_next.ensures.server ∙ c.loop-out.invariant.0,
  plays_firing c.args.engine.now.server c.loop-out.engine.server (standing_of c.args.engine.now) (standing_of c.loop-out.engine) (standing_of c.fire_next.new.engine)
      c.args.at c.in-Some.out
      (g.W.TellingWriter.contents c.args.writer.now) (g.W.TellingWriter.contents c.loop-out.writer) (g.W.TellingWriter.contents c.print_step.new.writer)
      c.loop-out.invariant.0 c.loop-out.invariant.1 (rw c.in-Some.is at c.in_ok-out.ensures.fired) c.in_ok-print_step.ensures.ok,
)

pub returns-in_err-out-clause-stopped : goal.returns-in_err-out-clause-stopped
returns-in_err-out-clause-stopped g c =
    let p = err_from_is_err_and c.from_residual.result c.from_residual.ensures.1 in
    rw (p.1, p.2) (firing_refused c.args.engine.now.server (standing_of c.args.engine.now) (standing_of c.loop-out.engine) c.args.at
    (g.W.TellingWriter.contents c.args.writer.now) (g.W.TellingWriter.contents c.loop-out.writer)
    (GaveUp (g.W.TellingWriter.has_failed c.loop-out.writer) (g.W.TellingWriter.called c.loop-out.writer)) c.in_err-out.field-0.0 c.loop-out.invariant.1
    c.in_err-out.ensures.refused)

pub returns-in_err-print_step-clause-stopped : goal.returns-in_err-print_step-clause-stopped
returns-in_err-print_step-clause-stopped g c =
    let p = err_from_is_err_and c.from_residual-in_err-print_step.result c.from_residual-in_err-print_step.ensures.1 in
    rw (p.1, p.2) (firing_unprinted c.args.engine.now.server c.loop-out.engine.server (standing_of c.args.engine.now) (standing_of c.loop-out.engine)
    (standing_of c.fire_next.new.engine) c.args.at c.in-Some.out
    (g.W.TellingWriter.contents c.args.writer.now) (g.W.TellingWriter.contents c.loop-out.writer) (g.W.TellingWriter.contents c.print_step.new.writer)
    (GaveUp (g.W.TellingWriter.has_failed c.print_step.new.writer) (g.W.TellingWriter.called c.print_step.new.writer)) c.in_err-print_step.field-0.0
    c.loop-out.invariant.0 c.loop-out.invariant.1 (rw c.in-Some.is at c.in_ok-out.ensures.fired) c.in_err-print_step.ensures.front c.in_err-print_step.ensures.stopped)
