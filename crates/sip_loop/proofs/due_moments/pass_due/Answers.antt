use Rattle.std.proofs.Common.{◌∙◌, ◌≤◌, ◌+◌, arith, [], Some, max, refl, subst}
use Rattle.std.proofs.lemmas.Result.{err_from_is_err_and}
use Rattle.sip_model.specs.Ends.{steps_left}
use Rattle.sip_model.specs.state.declared.server.Server.{Server}
use Rattle.sip_run.specs.Due.{standing_of}
use Rattle.sip_loop.specs.Courses.{Breaks, Course, told_with, waiting_at}
use Rattle.sip_loop.specs.Serving.{kept}
use Rattle.sip_loop.proofs.Courses.{course_nothing, course_on}
use Rattle.sip_loop.proofs.Handed.{breaks_on}
use Rattle.sip_loop.proofs.due_moments.pass_due.Goals as goal

pub loop-due-init : goal.loop-due-init
loop-due-init g c = (
  refl,
  refl,
  refl,
  refl,
  λ others. course_nothing c.args.engine.now.server (standing_of c.args.engine.now) (waiting_at (Some c.args.at) [] c.args.engine.now.state.moment)
      (told_with others (g.L.Link.given c.args.link.now) (kept (g.J.Journal.written c.args.journal.now) (g.J.Journal.faulted c.args.journal.now))) tt,
  refl,
)

pub loop-due-preserved : goal.loop-due-preserved
loop-due-preserved g c = (
  c.serve_due.ensures.server ∙ c.loop-due.invariant.0,
  c.serve_due.ensures.receives ∙ c.loop-due.invariant.1,
  c.serve_due.ensures.failures ∙ c.loop-due.invariant.2,
  c.serve_due.ensures.heard ∙ c.loop-due.invariant.3,
  λ others. course_on c.args.engine.now.server (standing_of c.args.engine.now) (standing_of c.loop-due.engine) (standing_of c.serve_due.new.engine)
      (waiting_at (Some c.args.at) [] c.args.engine.now.state.moment) (waiting_at (Some c.args.at) [] c.loop-due.engine.state.moment)
      (waiting_at (Some c.args.at) [] c.serve_due.new.engine.state.moment)
      (told_with others (g.L.Link.given c.args.link.now) (kept (g.J.Journal.written c.args.journal.now) (g.J.Journal.faulted c.args.journal.now)))
      (told_with others (g.L.Link.given c.loop-due.link) (kept (g.J.Journal.written c.loop-due.journal) (g.J.Journal.faulted c.loop-due.journal)))
      (told_with others (g.L.Link.given c.serve_due.new.link) (kept (g.J.Journal.written c.serve_due.new.journal) (g.J.Journal.faulted c.serve_due.new.journal))) [] [] 0
      0 0 0 tt (c.loop-due.invariant.4 others)
      (subst (λ (s : Server). Course s (standing_of c.loop-due.engine) (standing_of c.serve_due.new.engine)
      (waiting_at (Some c.args.at) [] c.loop-due.engine.state.moment) (waiting_at (Some c.args.at) [] c.serve_due.new.engine.state.moment)
      (told_with others (g.L.Link.given c.loop-due.link) (kept (g.J.Journal.written c.loop-due.journal) (g.J.Journal.faulted c.loop-due.journal)))
      (told_with others (g.L.Link.given c.serve_due.new.link) (kept (g.J.Journal.written c.serve_due.new.journal) (g.J.Journal.faulted c.serve_due.new.journal))) [] 0
      0)
      c.loop-due.invariant.0 (c.in_ok-serve_due.ensures.goes others c.args.at (rw c.in-Some.is at c.due_by.ensures.in_time))),
  c.serve_due.ensures.link_waits ∙ c.loop-due.invariant.5,
)

pub loop-due-smaller : goal.loop-due-smaller
loop-due-smaller g c =
    let in_time : c.in-Some.due ≤ max c.args.at c.loop-due.engine.state.moment = (rw c.in-Some.is at c.due_by.ensures.in_time) in
    let fewer : steps_left c.args.at c.serve_due.new.engine.state + 1 ≤ steps_left c.args.at c.loop-due.engine.state =
    c.in_ok-serve_due.ensures.fewer c.args.at (omega (arith, in_time)) in
    omega (arith, fewer)

pub returns-in_err-serve_due-clause-broken : goal.returns-in_err-serve_due-clause-broken
returns-in_err-serve_due-clause-broken g c =
    let p = err_from_is_err_and c.from_residual.result c.from_residual.ensures.1 in
    rw (p.1, p.2)
    (λ others. breaks_on c.args.engine.now.server (standing_of c.args.engine.now) (standing_of c.loop-due.engine) (standing_of c.serve_due.new.engine)
    (waiting_at (Some c.args.at) [] c.args.engine.now.state.moment) (waiting_at (Some c.args.at) [] c.loop-due.engine.state.moment)
    (told_with others (g.L.Link.given c.args.link.now) (kept (g.J.Journal.written c.args.journal.now) (g.J.Journal.faulted c.args.journal.now)))
    (told_with others (g.L.Link.given c.loop-due.link) (kept (g.J.Journal.written c.loop-due.journal) (g.J.Journal.faulted c.loop-due.journal)))
    (told_with others (g.L.Link.given c.serve_due.new.link) (kept (g.J.Journal.written c.serve_due.new.journal) (g.J.Journal.faulted c.serve_due.new.journal))) [] 0 0 0
    c.in_err-serve_due.field-0.0 tt (c.loop-due.invariant.4 others)
    (subst (λ (s : Server). Breaks s (standing_of c.loop-due.engine) (standing_of c.serve_due.new.engine) (waiting_at (Some c.args.at) [] c.loop-due.engine.state.moment)
    (told_with others (g.L.Link.given c.loop-due.link) (kept (g.J.Journal.written c.loop-due.journal) (g.J.Journal.faulted c.loop-due.journal)))
    (told_with others (g.L.Link.given c.serve_due.new.link) (kept (g.J.Journal.written c.serve_due.new.journal) (g.J.Journal.faulted c.serve_due.new.journal))) 0
    c.in_err-serve_due.field-0.0)
    c.loop-due.invariant.0 (c.in_err-serve_due.ensures.broken others c.args.at (rw c.in-Some.is at c.due_by.ensures.in_time))))

pub returns-in_err-serve_due-clause-not_link : goal.returns-in_err-serve_due-clause-not_link
returns-in_err-serve_due-clause-not_link g c =
    let p = err_from_is_err_and c.from_residual.result c.from_residual.ensures.1 in
    rw (p.1, p.2) c.in_err-serve_due.ensures.not_link

pub returns-in_err-serve_due-clause-journal_failed : goal.returns-in_err-serve_due-clause-journal_failed
returns-in_err-serve_due-clause-journal_failed g c =
    let p = err_from_is_err_and c.from_residual.result c.from_residual.ensures.1 in
    rw (p.1, p.2) c.in_err-serve_due.ensures.journal_failed
