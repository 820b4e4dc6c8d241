use Rattle.std.proofs.Common.{◌≡◌, ◌∙◌, inl, inr, ℕ, [], ap, arith, sym, subst}
use Rattle.std.proofs.lemmas.Result.{err_from_is_err_and}
use Rattle.sip_model.specs.state.declared.server.Server.{Server}
use Rattle.sip_model.specs.steps_model.Step.{moment_of}
use Rattle.sip_run.specs.engine.Engine.{Engine}
use Rattle.sip_run.specs.Due.{NothingDueBy, standing_of}
use Rattle.sip_loop.specs.Courses.{HappensAll, HappensTo}
use Rattle.sip_loop.proofs.WhatIsDue.{all_first, fewer_on, happens_nothing, takes_due, to_more}
use Rattle.sip_loop.proofs.due_moments.take_due.Goals as goal

pub returns-in_err-first-clause-refused : goal.returns-in_err-first-clause-refused
returns-in_err-first-clause-refused g c =
    let p = err_from_is_err_and c.from_residual.result c.from_residual.ensures.1 in
    rw (p.1, p.2) (inr (record { same = ap (λ (e : Engine). standing_of e) c.in_err-first.ensures.unchanged; why = c.in_err-first.ensures.refused }))

pub returns-in_err-wait_for-clause-refused : goal.returns-in_err-wait_for-clause-refused
returns-in_err-wait_for-clause-refused g c =
    let p = err_from_is_err_and c.from_residual-in_err-wait_for.result c.from_residual-in_err-wait_for.ensures.1 in
    rw (p.1, p.2)
    (inl (
      c.in_err-wait_for.ensures.refused,
      to_more c.args.engine.now.server (standing_of c.args.engine.now) (standing_of c.args.engine.now) (standing_of c.fire_first.new.engine) c.args.due
          c.in_ok-first.first
          (record { outs = []; happens = happens_nothing c.args.engine.now.server (standing_of c.args.engine.now) c.args.due }) c.in_ok-first.ensures.fired
          c.in_ok-first.ensures.at_first,
    ))

pub returns-in_err-fire_rest-clause-refused : goal.returns-in_err-fire_rest-clause-refused
returns-in_err-fire_rest-clause-refused g c =
    let p = err_from_is_err_and c.from_residual-in_err-fire_rest.result c.from_residual-in_err-fire_rest.ensures.1 in
    rw (p.1, p.2)
    (inl (
      c.in_err-fire_rest.ensures.refused,
      subst (λ (s : Server). HappensTo s (standing_of c.args.engine.now) (standing_of c.fire_rest.new.engine) c.args.due) c.fire_first.ensures.server
          (c.in_err-fire_rest.ensures.some (standing_of c.args.engine.now)
          (subst (λ (s : Server). HappensTo s (standing_of c.args.engine.now) (standing_of c.fire_first.new.engine) c.args.due) (sym c.fire_first.ensures.server)
          (to_more c.args.engine.now.server (standing_of c.args.engine.now) (standing_of c.args.engine.now) (standing_of c.fire_first.new.engine) c.args.due
          c.in_ok-first.first
          (record { outs = []; happens = happens_nothing c.args.engine.now.server (standing_of c.args.engine.now) c.args.due }) c.in_ok-first.ensures.fired
          c.in_ok-first.ensures.at_first))),
    ))

pub returns-clause-taken : goal.returns-clause-taken
returns-clause-taken g c =
    let all : HappensAll c.args.engine.now.server (standing_of c.args.engine.now) (standing_of c.fire_rest.new.engine) c.args.due c.args.waiting.now
    c.fire_rest.new.waiting =
    subst (λ (s : Server). HappensAll s (standing_of c.args.engine.now) (standing_of c.fire_rest.new.engine) c.args.due c.args.waiting.now c.fire_rest.new.waiting)
    c.fire_first.ensures.server
    (c.in_ok-fire_rest.ensures.fired (standing_of c.args.engine.now) c.args.waiting.now
    (subst (λ (s : Server). HappensAll s (standing_of c.args.engine.now) (standing_of c.fire_first.new.engine) c.args.due c.args.waiting.now c.wait_for.new.waiting)
    (sym c.fire_first.ensures.server)
    (all_first c.args.engine.now.server (standing_of c.args.engine.now) (standing_of c.fire_first.new.engine) c.args.due c.in_ok-first.first c.args.waiting.now
    c.wait_for.new.waiting
    c.in_ok-first.ensures.fired c.in_ok-first.ensures.at_first c.in_ok-wait_for.ensures.added))) in
    takes_due c.args.engine.now.server (standing_of c.args.engine.now) (standing_of c.fire_rest.new.engine) c.args.due c.args.waiting.now c.fire_rest.new.waiting
    all c.in_ok-first.ensures.not_refused c.in_ok-fire_rest.ensures.none_due c.in_ok-fire_rest.ensures.stays

pub returns-clause-none_due : goal.returns-clause-none_due
returns-clause-none_due g c =
    let stays : c.fire_rest.new.engine.state.moment ≡ c.args.due = c.in_ok-fire_rest.ensures.stays in
    let same : moment_of c.fire_rest.new.engine.state c.args.due ≡ c.fire_rest.new.engine.state.moment = omega (arith, stays) in
    subst (λ (m : ℕ). NothingDueBy m c.fire_rest.new.engine.state) same c.in_ok-fire_rest.ensures.none_due

pub returns-clause-fewer : goal.returns-clause-fewer
returns-clause-fewer g c =
    fewer_on c.args.engine.now.state c.fire_first.new.engine.state c.fire_rest.new.engine.state c.args.due c.in_ok-first.ensures.fired.fewer
    c.in_ok-fire_rest.ensures.no_further

pub fire_rest-requires-clause-moment : goal.fire_rest-requires-clause-moment
fire_rest-requires-clause-moment g c = c.in_ok-first.ensures.fired.stands ∙ c.in_ok-first.ensures.at_first
