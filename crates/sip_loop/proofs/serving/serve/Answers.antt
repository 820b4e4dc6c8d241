use Rattle.std.proofs.Common.{◌≡◌, ◌∙◌, ℕ, refl, subst, arith}
use Rattle.std.proofs.lemmas.Result.{err_from_is_err_and}
use Rattle.sip_model.specs.state.declared.server.Server.{Server}
use Rattle.sip_run.specs.Due.{standing_of}
use Rattle.sip_loop.specs.Courses.{Breaks, Goes}
use Rattle.sip_loop.specs.Serving.{IsServed, between_turns, kept, told_by}
use Rattle.sip_loop.proofs.Turning.{asked_once_more, asked_within, breaks_further, goes_further, goes_nothing, served, unserved}
use Rattle.sip_loop.proofs.serving.serve.Goals as goal

pub loop-init : goal.loop-init
loop-init g c = (
  refl,
  refl,
  refl,
  goes_nothing c.args.engine.now.server (standing_of c.args.engine.now)
      (told_by (g.L.Link.heard c.args.link.now) (g.L.Link.given c.args.link.now) (g.C.Clock.readings c.args.clock.now)
      (kept (g.J.Journal.written c.args.journal.now) (g.J.Journal.faulted c.args.journal.now))
      (kept (g.A.AuditLog.printed c.args.audit.now) (g.A.AuditLog.faulted c.args.audit.now)) (g.W.Rng.stream c.args.words.now)),
  refl,
)

pub returns-in_err-turn-clause-refused : goal.returns-in_err-turn-clause-refused
returns-in_err-turn-clause-refused g c =
    let p = err_from_is_err_and c.from_residual.result c.from_residual.ensures.1 in
    rw (p.1, p.2)
    (unserved c.every_history_has_access.ensures c.every_history_is_bounded.ensures c.args.engine.now.server (standing_of c.args.engine.now)
    (standing_of c.turn.new.engine) (told_by (g.L.Link.heard c.args.link.now) (g.L.Link.given c.args.link.now) (g.C.Clock.readings c.args.clock.now)
    (kept (g.J.Journal.written c.args.journal.now) (g.J.Journal.faulted c.args.journal.now))
    (kept (g.A.AuditLog.printed c.args.audit.now) (g.A.AuditLog.faulted c.args.audit.now)) (g.W.Rng.stream c.args.words.now))
    (told_by (g.L.Link.heard c.turn.new.link) (g.L.Link.given c.turn.new.link) (g.C.Clock.readings c.turn.new.clock)
    (kept (g.J.Journal.written c.turn.new.journal) (g.J.Journal.faulted c.turn.new.journal))
    (kept (g.A.AuditLog.printed c.turn.new.audit) (g.A.AuditLog.faulted c.turn.new.audit)) (g.W.Rng.stream c.turn.new.words)) c.args.turns c.in_err-turn.field-0.0
    (breaks_further c.args.engine.now.server (standing_of c.args.engine.now) (standing_of c.loop.engine) (standing_of c.turn.new.engine)
    (told_by (g.L.Link.heard c.args.link.now) (g.L.Link.given c.args.link.now) (g.C.Clock.readings c.args.clock.now)
    (kept (g.J.Journal.written c.args.journal.now) (g.J.Journal.faulted c.args.journal.now))
    (kept (g.A.AuditLog.printed c.args.audit.now) (g.A.AuditLog.faulted c.args.audit.now)) (g.W.Rng.stream c.args.words.now))
    (told_by (g.L.Link.heard c.loop.link) (g.L.Link.given c.loop.link) (g.C.Clock.readings c.loop.clock)
    (kept (g.J.Journal.written c.loop.journal) (g.J.Journal.faulted c.loop.journal)) (kept (g.A.AuditLog.printed c.loop.audit) (g.A.AuditLog.faulted c.loop.audit))
    (g.W.Rng.stream c.loop.words)) (told_by (g.L.Link.heard c.turn.new.link) (g.L.Link.given c.turn.new.link) (g.C.Clock.readings c.turn.new.clock)
    (kept (g.J.Journal.written c.turn.new.journal) (g.J.Journal.faulted c.turn.new.journal))
    (kept (g.A.AuditLog.printed c.turn.new.audit) (g.A.AuditLog.faulted c.turn.new.audit)) (g.W.Rng.stream c.turn.new.words)) c.loop.counter c.args.turns
    c.in_err-turn.field-0.0
    c.loop.invariant.3 (subst (λ (s : Server). Breaks s (standing_of c.loop.engine) (standing_of c.turn.new.engine) (between_turns c.loop.engine.state.moment)
    (told_by (g.L.Link.heard c.loop.link) (g.L.Link.given c.loop.link) (g.C.Clock.readings c.loop.clock)
    (kept (g.J.Journal.written c.loop.journal) (g.J.Journal.faulted c.loop.journal)) (kept (g.A.AuditLog.printed c.loop.audit) (g.A.AuditLog.faulted c.loop.audit))
    (g.W.Rng.stream c.loop.words)) (told_by (g.L.Link.heard c.turn.new.link) (g.L.Link.given c.turn.new.link) (g.C.Clock.readings c.turn.new.clock)
    (kept (g.J.Journal.written c.turn.new.journal) (g.J.Journal.faulted c.turn.new.journal))
    (kept (g.A.AuditLog.printed c.turn.new.audit) (g.A.AuditLog.faulted c.turn.new.audit)) (g.W.Rng.stream c.turn.new.words)) 1 c.in_err-turn.field-0.0)
    c.loop.invariant.0 c.in_err-turn.ensures.broken) c.loop-test.true))

pub returns-in_err-turn-clause-asked : goal.returns-in_err-turn-clause-asked
returns-in_err-turn-clause-asked g c =
    asked_within c.loop.counter c.args.turns (g.L.Link.receives c.args.link.now) (g.L.Link.receives c.loop.link) (g.L.Link.receives c.turn.new.link) c.loop.invariant.1
    c.turn.ensures.asked c.loop-test.true

pub loop-preserved : goal.loop-preserved
loop-preserved g c = (
  c.turn.ensures.server ∙ c.loop.invariant.0,
  asked_once_more c.loop.counter (g.L.Link.receives c.args.link.now) (g.L.Link.receives c.loop.link) (g.L.Link.receives c.turn.new.link) c.loop.invariant.1
      c.in_ok-turn.ensures.asked_all,
  c.in_ok-turn.ensures.link_held (λ e. cc) ∙ c.loop.invariant.2,
  goes_further c.args.engine.now.server (standing_of c.args.engine.now) (standing_of c.loop.engine) (standing_of c.turn.new.engine)
      (told_by (g.L.Link.heard c.args.link.now) (g.L.Link.given c.args.link.now) (g.C.Clock.readings c.args.clock.now)
      (kept (g.J.Journal.written c.args.journal.now) (g.J.Journal.faulted c.args.journal.now))
      (kept (g.A.AuditLog.printed c.args.audit.now) (g.A.AuditLog.faulted c.args.audit.now)) (g.W.Rng.stream c.args.words.now))
      (told_by (g.L.Link.heard c.loop.link) (g.L.Link.given c.loop.link) (g.C.Clock.readings c.loop.clock)
      (kept (g.J.Journal.written c.loop.journal) (g.J.Journal.faulted c.loop.journal)) (kept (g.A.AuditLog.printed c.loop.audit) (g.A.AuditLog.faulted c.loop.audit))
      (g.W.Rng.stream c.loop.words)) (told_by (g.L.Link.heard c.turn.new.link) (g.L.Link.given c.turn.new.link) (g.C.Clock.readings c.turn.new.clock)
      (kept (g.J.Journal.written c.turn.new.journal) (g.J.Journal.faulted c.turn.new.journal))
      (kept (g.A.AuditLog.printed c.turn.new.audit) (g.A.AuditLog.faulted c.turn.new.audit)) (g.W.Rng.stream c.turn.new.words)) c.loop.counter c.loop.invariant.3
      (subst (λ (s : Server). Goes s (standing_of c.loop.engine) (standing_of c.turn.new.engine)
      (told_by (g.L.Link.heard c.loop.link) (g.L.Link.given c.loop.link) (g.C.Clock.readings c.loop.clock)
      (kept (g.J.Journal.written c.loop.journal) (g.J.Journal.faulted c.loop.journal)) (kept (g.A.AuditLog.printed c.loop.audit) (g.A.AuditLog.faulted c.loop.audit))
      (g.W.Rng.stream c.loop.words)) (told_by (g.L.Link.heard c.turn.new.link) (g.L.Link.given c.turn.new.link) (g.C.Clock.readings c.turn.new.clock)
      (kept (g.J.Journal.written c.turn.new.journal) (g.J.Journal.faulted c.turn.new.journal))
      (kept (g.A.AuditLog.printed c.turn.new.audit) (g.A.AuditLog.faulted c.turn.new.audit)) (g.W.Rng.stream c.turn.new.words)) 1) c.loop.invariant.0
      c.in_ok-turn.ensures.goes),
  c.turn.ensures.link_waits ∙ c.loop.invariant.4,
)

pub returns-clause-served : goal.returns-clause-served
returns-clause-served g c =
    let all : c.loop.counter ≡ c.args.turns = omega (arith, c.loop-test.false, c.loop.auto.counter-end) in
    subst (λ (n : ℕ). IsServed n c.args.engine.now.server (standing_of c.args.engine.now) (standing_of c.loop.engine)
    (told_by (g.L.Link.heard c.args.link.now) (g.L.Link.given c.args.link.now) (g.C.Clock.readings c.args.clock.now)
    (kept (g.J.Journal.written c.args.journal.now) (g.J.Journal.faulted c.args.journal.now))
    (kept (g.A.AuditLog.printed c.args.audit.now) (g.A.AuditLog.faulted c.args.audit.now)) (g.W.Rng.stream c.args.words.now))
    (told_by (g.L.Link.heard c.loop.link) (g.L.Link.given c.loop.link) (g.C.Clock.readings c.loop.clock)
    (kept (g.J.Journal.written c.loop.journal) (g.J.Journal.faulted c.loop.journal)) (kept (g.A.AuditLog.printed c.loop.audit) (g.A.AuditLog.faulted c.loop.audit))
    (g.W.Rng.stream c.loop.words))) all
    (served c.every_history_has_access.ensures c.every_history_is_bounded.ensures c.args.engine.now.server (standing_of c.args.engine.now) (standing_of c.loop.engine)
    (told_by (g.L.Link.heard c.args.link.now) (g.L.Link.given c.args.link.now) (g.C.Clock.readings c.args.clock.now)
    (kept (g.J.Journal.written c.args.journal.now) (g.J.Journal.faulted c.args.journal.now))
    (kept (g.A.AuditLog.printed c.args.audit.now) (g.A.AuditLog.faulted c.args.audit.now)) (g.W.Rng.stream c.args.words.now))
    (told_by (g.L.Link.heard c.loop.link) (g.L.Link.given c.loop.link) (g.C.Clock.readings c.loop.clock)
    (kept (g.J.Journal.written c.loop.journal) (g.J.Journal.faulted c.loop.journal)) (kept (g.A.AuditLog.printed c.loop.audit) (g.A.AuditLog.faulted c.loop.audit))
    (g.W.Rng.stream c.loop.words)) c.loop.counter c.loop.invariant.3)
