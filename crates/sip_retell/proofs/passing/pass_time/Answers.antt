use Rattle.std.proofs.Common.{refl, ap, ◌∙◌, Some}
use Rattle.std.proofs.lemmas.Result.{err_from_is_err_and}
use Rattle.sip_model.specs.state.declared.server.Server.{Server}
use Rattle.sip_resume.specs.run.engine.Engine.{Engine}
use Rattle.sip_resume.specs.run.Due.{standing_of}
use Rattle.sip_retell.proofs.Firing.{passing_stops, passing_untold, tells_firing, tells_nothing, untold_firing}
use Rattle.sip_retell.proofs.passing.pass_time.Goals as goal

pub loop-out-init : goal.loop-out-init
loop-out-init g c = (refl, tells_nothing g.L.Listener.hears c.args.engine.now.server (standing_of c.args.engine.now) (Some c.args.at) c.args.listener.now, refl)

pub loop-out-preserved : goal.loop-out-preserved
loop-out-preserved g c = (
  c.fire_next.ensures.server ∙ c.loop-out.invariant.0,
  tells_firing g.L.Listener.hears c.args.engine.now.server c.loop-out.engine.server (standing_of c.args.engine.now) (standing_of c.loop-out.engine)
      (standing_of c.fire_next.new.engine)
      c.args.at c.config.result.now c.in-Some.out c.args.listener.now c.loop-out.listener
      c.hear.new.self c.loop-out.invariant.0
      (c.config.ensures ∙ ap (λ (s : Server). s.config) (c.fire_next.ensures.server ∙ c.loop-out.invariant.0)) c.loop-out.invariant.1
      (rw c.in-Some.is at c.in_ok-out.ensures.fired) c.in_ok-hear.ensures.heard,
  c.fire_next.ensures.secrets ∙ c.loop-out.invariant.2,
)

pub returns-in_err-out-clause-stopped : goal.returns-in_err-out-clause-stopped
returns-in_err-out-clause-stopped g c =
    let p = err_from_is_err_and c.from_residual.result c.from_residual.ensures.1 in
    rw (p.1, p.2) (passing_stops g.L.Listener.hears g.L.Listener.refuses c.args.engine.now.server (standing_of c.args.engine.now)
    (standing_of c.loop-out.engine) (standing_of c.fire_next.new.engine) c.args.at
    c.args.listener.now c.loop-out.listener c.in_err-out.field-0.0
    (ap (λ (e : Engine). standing_of e) c.in_err-out.ensures.unchanged) c.loop-out.invariant.1 c.in_err-out.ensures.refused)

pub returns-in_err-hear-clause-stopped : goal.returns-in_err-hear-clause-stopped
returns-in_err-hear-clause-stopped g c =
    let p = err_from_is_err_and c.from_residual-in_err-hear.result c.from_residual-in_err-hear.ensures.1 in
    rw (p.1, p.2) (passing_untold g.L.Listener.hears g.L.Listener.refuses c.args.engine.now.server (standing_of c.args.engine.now)
    (standing_of c.fire_next.new.engine) c.args.at
    c.args.listener.now c.hear.new.self c.in_err-hear.field-0.0
    (untold_firing g.L.Listener.hears g.L.Listener.refuses c.args.engine.now.server c.loop-out.engine.server (standing_of c.args.engine.now)
    (standing_of c.loop-out.engine) (standing_of c.fire_next.new.engine)
    c.args.at c.config.result.now c.in-Some.out c.args.listener.now c.loop-out.listener
    c.hear.new.self c.loop-out.invariant.0 (c.config.ensures ∙ ap (λ (s : Server). s.config) (c.fire_next.ensures.server ∙ c.loop-out.invariant.0))
    c.loop-out.invariant.1 (rw c.in-Some.is at c.in_ok-out.ensures.fired) c.in_err-hear.ensures.unheard))
