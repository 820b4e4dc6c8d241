use Rattle.std.proofs.Common.{ap, ◌∙◌}
use Rattle.std.proofs.lemmas.Result.{err_from_is_err_and}
use Rattle.sip_model.specs.state.declared.server.Server.{Server}
use Rattle.sip_resume.specs.run.engine.Engine.{Engine}
use Rattle.sip_resume.specs.run.Due.{standing_of}
use Rattle.sip_retell.proofs.Turning.{due_stops, own_stops, own_unheard, turn_told, turn_untold}
use Rattle.sip_retell.proofs.passing.tell_in_turn.Goals as goal

pub returns-clause-told : goal.returns-clause-told
returns-clause-told g c =
    turn_told g.L.Listener.hears c.args.engine.now.server c.pass_time.new.engine.server (standing_of c.args.engine.now) (standing_of c.pass_time.new.engine)
    (standing_of c.take_event.new.engine) c.event_moment-at.result c.args.event c.config.result.now c.in_ok-out.out
    c.args.listener.now c.pass_time.new.listener c.hear.new.self c.pass_time.ensures.server
    c.event_moment-at.ensures (c.config.ensures ∙ ap (λ (s : Server). s.config) (c.take_event.ensures.server ∙ c.pass_time.ensures.server))
    c.in_ok-pass_time.ensures.passed c.in_ok-pass_time.ensures.none_due c.in_ok-out.ensures.step c.in_ok-out.ensures.queue c.in_ok-hear.ensures.heard

pub returns-in_err-pass_time-clause-stopped : goal.returns-in_err-pass_time-clause-stopped
returns-in_err-pass_time-clause-stopped g c =
    let p = err_from_is_err_and c.from_residual.result c.from_residual.ensures.1 in
    rw (p.1, p.2) (due_stops g.L.Listener.hears g.L.Listener.refuses c.args.engine.now.server (standing_of c.args.engine.now)
    (standing_of c.pass_time.new.engine) c.event_moment-at.result c.args.event
    c.args.listener.now c.pass_time.new.listener c.in_err-pass_time.field-0.0 c.event_moment-at.ensures
    c.in_err-pass_time.ensures.stopped)

pub returns-in_err-out-clause-stopped : goal.returns-in_err-out-clause-stopped
returns-in_err-out-clause-stopped g c =
    let p = err_from_is_err_and c.from_residual-in_err-out.result c.from_residual-in_err-out.ensures.1 in
    rw (p.1, p.2) (own_stops g.L.Listener.hears g.L.Listener.refuses c.args.engine.now.server (standing_of c.args.engine.now)
    (standing_of c.pass_time.new.engine) (standing_of c.take_event.new.engine)
    c.event_moment-at.result c.args.event c.args.listener.now c.pass_time.new.listener c.in_err-out.field-0.0
    (ap (λ (e : Engine). standing_of e) c.in_err-out.ensures.unchanged) c.event_moment-at.ensures c.in_ok-pass_time.ensures.passed c.in_err-out.ensures.refused)

pub returns-in_err-hear-clause-stopped : goal.returns-in_err-hear-clause-stopped
returns-in_err-hear-clause-stopped g c =
    let p = err_from_is_err_and c.from_residual-in_err-hear.result c.from_residual-in_err-hear.ensures.1 in
    rw (p.1, p.2) (own_unheard g.L.Listener.hears g.L.Listener.refuses c.args.engine.now.server (standing_of c.args.engine.now)
    (standing_of c.take_event.new.engine) c.args.event
    c.args.listener.now c.hear.new.self c.in_err-hear.field-0.0
    (turn_untold g.L.Listener.hears g.L.Listener.refuses c.args.engine.now.server c.pass_time.new.engine.server (standing_of c.args.engine.now)
    (standing_of c.pass_time.new.engine)
    (standing_of c.take_event.new.engine) c.event_moment-at.result c.args.event c.config.result.now c.in_ok-out.out c.args.listener.now
    c.pass_time.new.listener c.hear.new.self c.pass_time.ensures.server c.event_moment-at.ensures
    (c.config.ensures ∙ ap (λ (s : Server). s.config) (c.take_event.ensures.server ∙ c.pass_time.ensures.server)) c.in_ok-pass_time.ensures.passed
    c.in_ok-pass_time.ensures.none_due c.in_ok-out.ensures.step c.in_ok-out.ensures.queue c.in_err-hear.ensures.unheard))
