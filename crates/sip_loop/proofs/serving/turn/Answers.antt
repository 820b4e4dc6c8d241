use Rattle.std.proofs.Common.{◌∙◌, sym, zero, suc, ap, arith, subst, Option, List, ℕ}
use Rattle.std.proofs.lemmas.Result.{err_from_is_err_and, on_ok_weaker, IfErr-weaker}
use Rattle.sip_run.specs.Due.{standing_of}
use Rattle.sip_transport.specs.Told.{counted}
use Rattle.sip_transport.specs.declared.datagram.HeardDatagram.{HeardDatagram}
use Rattle.sip_model.specs.state.declared.server.Server.{Server}
use Rattle.sip_loop.specs.Courses.{Breaks, TurnBreaks, TurnGoes}
use Rattle.sip_loop.specs.Serving.{between_turns, kept, told_by}
use Rattle.sip_loop.proofs.Gathering.{told_reading}
use Rattle.sip_loop.proofs.Turning.{turn_begun, turn_part, turn_undue, turn_whole}
use Rattle.sip_loop.proofs.serving.turn.Goals as goal

pub returns-in_err-pass_due-clause-link_failed : goal.returns-in_err-pass_due-clause-link_failed
returns-in_err-pass_due-clause-link_failed g c =
    let p = err_from_is_err_and c.from_residual.result c.from_residual.ensures.1 in
    λ e. absurd (c.in_err-pass_due.ensures.not_link (cc (p.1, p.2, e)))

pub returns-in_err-pass_due-clause-journal_failed : goal.returns-in_err-pass_due-clause-journal_failed
returns-in_err-pass_due-clause-journal_failed g c =
    let p = err_from_is_err_and c.from_residual.result c.from_residual.ensures.1 in
    λ e. c.in_err-pass_due.ensures.journal_failed (cc (p.1, p.2, e))

pub returns-in_err-pass_due-clause-broken : goal.returns-in_err-pass_due-clause-broken
returns-in_err-pass_due-clause-broken g c =
    let p = err_from_is_err_and c.from_residual.result c.from_residual.ensures.1 in
    rw (p.1, p.2)
    (subst (λ (o : Option (List (Option HeardDatagram))). Breaks c.args.engine.now.server (standing_of c.args.engine.now) (standing_of c.pass_due.new.engine)
    (between_turns c.args.engine.now.state.moment)
    (told_by (g.L.Link.heard c.args.link.now) (g.L.Link.given c.args.link.now) (g.C.Clock.readings c.args.clock.now)
    (kept (g.J.Journal.written c.args.journal.now) (g.J.Journal.faulted c.args.journal.now))
    (kept (g.A.AuditLog.printed c.args.audit.now) (g.A.AuditLog.faulted c.args.audit.now)) (g.W.Rng.stream c.args.words.now))
    (told_by o (g.L.Link.given c.pass_due.new.link) (g.C.Clock.readings c.now-at.new.self)
    (kept (g.J.Journal.written c.pass_due.new.journal) (g.J.Journal.faulted c.pass_due.new.journal))
    (kept (g.A.AuditLog.printed c.args.audit.now) (g.A.AuditLog.faulted c.args.audit.now)) (g.W.Rng.stream c.args.words.now)) 1 c.in_err-pass_due.field-0.0)
    (sym c.pass_due.ensures.heard)
    (turn_undue c.args.engine.now.server (standing_of c.args.engine.now) (standing_of c.pass_due.new.engine) c.now-at.result (g.L.Link.heard c.args.link.now)
    (g.L.Link.given c.args.link.now) (g.L.Link.given c.pass_due.new.link) (g.C.Clock.readings c.args.clock.now) (g.C.Clock.readings c.now-at.new.self)
    (kept (g.J.Journal.written c.args.journal.now) (g.J.Journal.faulted c.args.journal.now))
    (kept (g.J.Journal.written c.pass_due.new.journal) (g.J.Journal.faulted c.pass_due.new.journal))
    (kept (g.A.AuditLog.printed c.args.audit.now) (g.A.AuditLog.faulted c.args.audit.now)) (g.W.Rng.stream c.args.words.now) c.in_err-pass_due.field-0.0
    (told_reading (g.C.Clock.readings c.args.clock.now) (g.C.Clock.readings c.now-at.new.self) c.now-at.result c.now-at.ensures)
    (c.in_err-pass_due.ensures.broken (record {
      heard = g.L.Link.heard c.args.link.now;
      readings = g.C.Clock.readings c.now-at.new.self;
      log = kept (g.A.AuditLog.printed c.args.audit.now) (g.A.AuditLog.faulted c.args.audit.now);
      words = g.W.Rng.stream c.args.words.now;
    }))))

pub returns-clause-asked : goal.returns-clause-asked
returns-clause-asked g c = record { times = suc zero; within = omega arith; is = c.take_turn.ensures.asked ∙ ap counted c.pass_due.ensures.receives }

pub returns-clause-goes : goal.returns-clause-goes
returns-clause-goes g c =
    on_ok_weaker c.take_turn.result
    (λ rest. turn_whole c.args.engine.now.server (standing_of c.args.engine.now) (standing_of c.pass_due.new.engine) (standing_of c.take_turn.new.engine) c.now-at.result
    (told_by (g.L.Link.heard c.args.link.now) (g.L.Link.given c.args.link.now) (g.C.Clock.readings c.args.clock.now)
    (kept (g.J.Journal.written c.args.journal.now) (g.J.Journal.faulted c.args.journal.now))
    (kept (g.A.AuditLog.printed c.args.audit.now) (g.A.AuditLog.faulted c.args.audit.now)) (g.W.Rng.stream c.args.words.now))
    (told_by (g.L.Link.heard c.args.link.now) (g.L.Link.given c.pass_due.new.link) (g.C.Clock.readings c.now-at.new.self)
    (kept (g.J.Journal.written c.pass_due.new.journal) (g.J.Journal.faulted c.pass_due.new.journal))
    (kept (g.A.AuditLog.printed c.args.audit.now) (g.A.AuditLog.faulted c.args.audit.now)) (g.W.Rng.stream c.args.words.now))
    (told_by (g.L.Link.heard c.take_turn.new.link) (g.L.Link.given c.take_turn.new.link) (g.C.Clock.readings c.now-at.new.self)
    (kept (g.J.Journal.written c.take_turn.new.journal) (g.J.Journal.faulted c.take_turn.new.journal))
    (kept (g.A.AuditLog.printed c.take_turn.new.audit) (g.A.AuditLog.faulted c.take_turn.new.audit)) (g.W.Rng.stream c.take_turn.new.words))
    (turn_begun c.args.engine.now.server (standing_of c.args.engine.now) (standing_of c.pass_due.new.engine) c.now-at.result (g.L.Link.heard c.args.link.now)
    (g.L.Link.given c.args.link.now) (g.L.Link.given c.pass_due.new.link) (g.C.Clock.readings c.args.clock.now) (g.C.Clock.readings c.now-at.new.self)
    (kept (g.J.Journal.written c.args.journal.now) (g.J.Journal.faulted c.args.journal.now))
    (kept (g.J.Journal.written c.pass_due.new.journal) (g.J.Journal.faulted c.pass_due.new.journal))
    (kept (g.A.AuditLog.printed c.args.audit.now) (g.A.AuditLog.faulted c.args.audit.now)) (g.W.Rng.stream c.args.words.now)
    (told_reading (g.C.Clock.readings c.args.clock.now) (g.C.Clock.readings c.now-at.new.self) c.now-at.result c.now-at.ensures)
    (c.in_ok-pass_due.ensures.goes (record {
      heard = g.L.Link.heard c.args.link.now;
      readings = g.C.Clock.readings c.now-at.new.self;
      log = kept (g.A.AuditLog.printed c.args.audit.now) (g.A.AuditLog.faulted c.args.audit.now);
      words = g.W.Rng.stream c.args.words.now;
    })))
    (subst (λ (s : Server). TurnGoes s (standing_of c.pass_due.new.engine) (standing_of c.take_turn.new.engine) c.now-at.result
    (told_by (g.L.Link.heard c.args.link.now) (g.L.Link.given c.pass_due.new.link) (g.C.Clock.readings c.now-at.new.self)
    (kept (g.J.Journal.written c.pass_due.new.journal) (g.J.Journal.faulted c.pass_due.new.journal))
    (kept (g.A.AuditLog.printed c.args.audit.now) (g.A.AuditLog.faulted c.args.audit.now)) (g.W.Rng.stream c.args.words.now))
    (told_by (g.L.Link.heard c.take_turn.new.link) (g.L.Link.given c.take_turn.new.link) (g.C.Clock.readings c.now-at.new.self)
    (kept (g.J.Journal.written c.take_turn.new.journal) (g.J.Journal.faulted c.take_turn.new.journal))
    (kept (g.A.AuditLog.printed c.take_turn.new.audit) (g.A.AuditLog.faulted c.take_turn.new.audit)) (g.W.Rng.stream c.take_turn.new.words)))
    c.pass_due.ensures.server
    (subst (λ (o : Option (List (Option HeardDatagram))). TurnGoes c.pass_due.new.engine.server (standing_of c.pass_due.new.engine) (standing_of c.take_turn.new.engine)
    c.now-at.result
    (told_by o (g.L.Link.given c.pass_due.new.link) (g.C.Clock.readings c.now-at.new.self)
    (kept (g.J.Journal.written c.pass_due.new.journal) (g.J.Journal.faulted c.pass_due.new.journal))
    (kept (g.A.AuditLog.printed c.args.audit.now) (g.A.AuditLog.faulted c.args.audit.now)) (g.W.Rng.stream c.args.words.now))
    (told_by (g.L.Link.heard c.take_turn.new.link) (g.L.Link.given c.take_turn.new.link) (g.C.Clock.readings c.now-at.new.self)
    (kept (g.J.Journal.written c.take_turn.new.journal) (g.J.Journal.faulted c.take_turn.new.journal))
    (kept (g.A.AuditLog.printed c.take_turn.new.audit) (g.A.AuditLog.faulted c.take_turn.new.audit)) (g.W.Rng.stream c.take_turn.new.words))
    ) c.pass_due.ensures.heard (rest (g.C.Clock.readings c.now-at.new.self))))) c.take_turn.ensures.goes

pub returns-clause-broken : goal.returns-clause-broken
returns-clause-broken g c =
    IfErr-weaker c.take_turn.result
    (λ e. (readings : Option (List ℕ)) → TurnBreaks c.pass_due.new.engine.server (standing_of c.pass_due.new.engine) (standing_of c.take_turn.new.engine) c.now-at.result
    (told_by (g.L.Link.heard c.pass_due.new.link) (g.L.Link.given c.pass_due.new.link) readings
    (kept (g.J.Journal.written c.pass_due.new.journal) (g.J.Journal.faulted c.pass_due.new.journal))
    (kept (g.A.AuditLog.printed c.args.audit.now) (g.A.AuditLog.faulted c.args.audit.now)) (g.W.Rng.stream c.args.words.now))
    (told_by (g.L.Link.heard c.take_turn.new.link) (g.L.Link.given c.take_turn.new.link) readings
    (kept (g.J.Journal.written c.take_turn.new.journal) (g.J.Journal.faulted c.take_turn.new.journal))
    (kept (g.A.AuditLog.printed c.take_turn.new.audit) (g.A.AuditLog.faulted c.take_turn.new.audit)) (g.W.Rng.stream c.take_turn.new.words)) e)
    (λ e. Breaks c.args.engine.now.server (standing_of c.args.engine.now) (standing_of c.take_turn.new.engine) (between_turns c.args.engine.now.state.moment)
    (told_by (g.L.Link.heard c.args.link.now) (g.L.Link.given c.args.link.now) (g.C.Clock.readings c.args.clock.now)
    (kept (g.J.Journal.written c.args.journal.now) (g.J.Journal.faulted c.args.journal.now))
    (kept (g.A.AuditLog.printed c.args.audit.now) (g.A.AuditLog.faulted c.args.audit.now)) (g.W.Rng.stream c.args.words.now))
    (told_by (g.L.Link.heard c.take_turn.new.link) (g.L.Link.given c.take_turn.new.link) (g.C.Clock.readings c.now-at.new.self)
    (kept (g.J.Journal.written c.take_turn.new.journal) (g.J.Journal.faulted c.take_turn.new.journal))
    (kept (g.A.AuditLog.printed c.take_turn.new.audit) (g.A.AuditLog.faulted c.take_turn.new.audit)) (g.W.Rng.stream c.take_turn.new.words)) 1 e)
    (λ e h. turn_part c.args.engine.now.server (standing_of c.args.engine.now) (standing_of c.pass_due.new.engine) (standing_of c.take_turn.new.engine) c.now-at.result
    (told_by (g.L.Link.heard c.args.link.now) (g.L.Link.given c.args.link.now) (g.C.Clock.readings c.args.clock.now)
    (kept (g.J.Journal.written c.args.journal.now) (g.J.Journal.faulted c.args.journal.now))
    (kept (g.A.AuditLog.printed c.args.audit.now) (g.A.AuditLog.faulted c.args.audit.now)) (g.W.Rng.stream c.args.words.now))
    (told_by (g.L.Link.heard c.args.link.now) (g.L.Link.given c.pass_due.new.link) (g.C.Clock.readings c.now-at.new.self)
    (kept (g.J.Journal.written c.pass_due.new.journal) (g.J.Journal.faulted c.pass_due.new.journal))
    (kept (g.A.AuditLog.printed c.args.audit.now) (g.A.AuditLog.faulted c.args.audit.now)) (g.W.Rng.stream c.args.words.now))
    (told_by (g.L.Link.heard c.take_turn.new.link) (g.L.Link.given c.take_turn.new.link) (g.C.Clock.readings c.now-at.new.self)
    (kept (g.J.Journal.written c.take_turn.new.journal) (g.J.Journal.faulted c.take_turn.new.journal))
    (kept (g.A.AuditLog.printed c.take_turn.new.audit) (g.A.AuditLog.faulted c.take_turn.new.audit)) (g.W.Rng.stream c.take_turn.new.words)) e
    (turn_begun c.args.engine.now.server (standing_of c.args.engine.now) (standing_of c.pass_due.new.engine) c.now-at.result (g.L.Link.heard c.args.link.now)
    (g.L.Link.given c.args.link.now) (g.L.Link.given c.pass_due.new.link) (g.C.Clock.readings c.args.clock.now) (g.C.Clock.readings c.now-at.new.self)
    (kept (g.J.Journal.written c.args.journal.now) (g.J.Journal.faulted c.args.journal.now))
    (kept (g.J.Journal.written c.pass_due.new.journal) (g.J.Journal.faulted c.pass_due.new.journal))
    (kept (g.A.AuditLog.printed c.args.audit.now) (g.A.AuditLog.faulted c.args.audit.now)) (g.W.Rng.stream c.args.words.now)
    (told_reading (g.C.Clock.readings c.args.clock.now) (g.C.Clock.readings c.now-at.new.self) c.now-at.result c.now-at.ensures)
    (c.in_ok-pass_due.ensures.goes (record {
      heard = g.L.Link.heard c.args.link.now;
      readings = g.C.Clock.readings c.now-at.new.self;
      log = kept (g.A.AuditLog.printed c.args.audit.now) (g.A.AuditLog.faulted c.args.audit.now);
      words = g.W.Rng.stream c.args.words.now;
    })))
    (subst (λ (s : Server). TurnBreaks s (standing_of c.pass_due.new.engine) (standing_of c.take_turn.new.engine) c.now-at.result
    (told_by (g.L.Link.heard c.args.link.now) (g.L.Link.given c.pass_due.new.link) (g.C.Clock.readings c.now-at.new.self)
    (kept (g.J.Journal.written c.pass_due.new.journal) (g.J.Journal.faulted c.pass_due.new.journal))
    (kept (g.A.AuditLog.printed c.args.audit.now) (g.A.AuditLog.faulted c.args.audit.now)) (g.W.Rng.stream c.args.words.now))
    (told_by (g.L.Link.heard c.take_turn.new.link) (g.L.Link.given c.take_turn.new.link) (g.C.Clock.readings c.now-at.new.self)
    (kept (g.J.Journal.written c.take_turn.new.journal) (g.J.Journal.faulted c.take_turn.new.journal))
    (kept (g.A.AuditLog.printed c.take_turn.new.audit) (g.A.AuditLog.faulted c.take_turn.new.audit)) (g.W.Rng.stream c.take_turn.new.words)) e)
    c.pass_due.ensures.server
    (subst (λ (o : Option (List (Option HeardDatagram))). TurnBreaks c.pass_due.new.engine.server (standing_of c.pass_due.new.engine) (standing_of c.take_turn.new.engine)
    c.now-at.result
    (told_by o (g.L.Link.given c.pass_due.new.link) (g.C.Clock.readings c.now-at.new.self)
    (kept (g.J.Journal.written c.pass_due.new.journal) (g.J.Journal.faulted c.pass_due.new.journal))
    (kept (g.A.AuditLog.printed c.args.audit.now) (g.A.AuditLog.faulted c.args.audit.now)) (g.W.Rng.stream c.args.words.now))
    (told_by (g.L.Link.heard c.take_turn.new.link) (g.L.Link.given c.take_turn.new.link) (g.C.Clock.readings c.now-at.new.self)
    (kept (g.J.Journal.written c.take_turn.new.journal) (g.J.Journal.faulted c.take_turn.new.journal))
    (kept (g.A.AuditLog.printed c.take_turn.new.audit) (g.A.AuditLog.faulted c.take_turn.new.audit)) (g.W.Rng.stream c.take_turn.new.words)) e)
    c.pass_due.ensures.heard (h (g.C.Clock.readings c.now-at.new.self))))) c.take_turn.ensures.broken
