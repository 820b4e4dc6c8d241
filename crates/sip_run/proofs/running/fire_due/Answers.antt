use Rattle.std.proofs.Common.{refl, ◌∙◌, Some}
use Rattle.sip_run.proofs.Going.{goes_nothing, goes_firing}
use Rattle.sip_run.specs.Due.{standing_of}
use Rattle.sip_run.proofs.running.fire_due.Goals as goal

pub loop-out-init : goal.loop-out-init
loop-out-init g c = (refl, goes_nothing c.args.engine.now.server (standing_of c.args.engine.now) (Some c.args.at) c.args.steps.now)

pub loop-out-preserved : goal.loop-out-preserved
loop-out-preserved g c = (
  c.fire_next.ensures.server ∙ c.loop-out.invariant.0,
  goes_firing c.args.engine.now.server c.loop-out.engine.server (standing_of c.args.engine.now) (standing_of c.loop-out.engine) (standing_of c.fire_next.new.engine)
      c.args.at c.in-Some.out c.args.steps.now c.loop-out.steps c.push.new.self
      c.loop-out.invariant.0 c.loop-out.invariant.1 (rw c.in-Some.is at c.in_ok-out.ensures.fired) c.in_ok-push.ensures.ok,
)
