use Rattle.std.proofs.Common.{[], ◌∷◌, ap, sym, subst, List, Option, None, ℕ}
use Rattle.std.proofs.lemmas.Result.{err_from_is_err_and, on_ok_weaker, IfErr-weaker}
use Rattle.sip_model.specs.steps_model.Step.{Given as ForEvent}
use Rattle.sip_model.specs.state.declared.server.Server.{Server}
use Rattle.sip_run.specs.engine.Engine.{Engine}
use Rattle.sip_journal.specs.Record.{Notes}
use Rattle.sip_run.specs.Due.{standing_of}
use Rattle.sip_transport.specs.declared.datagram.Given.{Given}
use Rattle.sip_transport.specs.declared.datagram.HeardDatagram.{HeardDatagram}
use Rattle.sip_loop.specs.Courses.{Breaks, Course, Others, TurnBreaks, TurnGoes, told_with, waiting_at}
use Rattle.sip_loop.specs.Serving.{event_of_turn, kept, told_by, turn_at}
use Rattle.sip_loop.proofs.Turning.{turn_broken, turn_goes, turn_unlogged, turn_unsent, turn_untold}
use Rattle.sip_loop.specs.declared.serve_error.ServeError.TheVariants as Refusal
use Rattle.sip_loop.proofs.serving.take_turn.Goals as goal

pub returns-in_err-taken-clause-broken : goal.returns-in_err-taken-clause-broken
returns-in_err-taken-clause-broken g c =
    let p = err_from_is_err_and c.from_residual.result c.from_residual.ensures.1 in
    rw (p.1, p.2)
    (λ readings. subst (λ (o : Option (List Given)). TurnBreaks c.args.engine.now.server (standing_of c.args.engine.now) (standing_of c.take_event.new.engine) c.args.at
    (told_by (g.L.Link.heard c.args.link.now) (g.L.Link.given c.args.link.now) readings
    (kept (g.J.Journal.written c.args.journal.now) (g.J.Journal.faulted c.args.journal.now))
    (kept (g.A.AuditLog.printed c.args.audit.now) (g.A.AuditLog.faulted c.args.audit.now)) (g.W.Rng.stream c.args.words.now))
    (told_by (g.L.Link.heard c.take_event.new.link) o readings (kept (g.J.Journal.written c.args.journal.now) (g.J.Journal.faulted c.args.journal.now))
    (kept (g.A.AuditLog.printed c.args.audit.now) (g.A.AuditLog.faulted c.args.audit.now)) (g.W.Rng.stream c.take_event.new.words)) c.in_err-taken.field-0.0)
    (sym c.take_event.ensures.given)
    (turn_broken c.args.engine.now.server (standing_of c.args.engine.now) c.args.at c.requires (g.L.Link.heard c.args.link.now) (g.L.Link.heard c.take_event.new.link)
    (g.L.Link.given c.args.link.now) readings (kept (g.J.Journal.written c.args.journal.now) (g.J.Journal.faulted c.args.journal.now))
    (kept (g.A.AuditLog.printed c.args.audit.now) (g.A.AuditLog.faulted c.args.audit.now)) (g.W.Rng.stream c.args.words.now) (g.W.Rng.stream c.take_event.new.words)
    (standing_of c.take_event.new.engine) c.in_err-taken.field-0.0 (ap (λ (e : Engine). standing_of e) c.in_err-taken.ensures.unchanged)
    c.in_err-taken.ensures.broken))

pub returns-in_err-note_turn-clause-broken : goal.returns-in_err-note_turn-clause-broken
returns-in_err-note_turn-clause-broken g c =
    let p = err_from_is_err_and c.from_residual-in_err-note_turn.result c.from_residual-in_err-note_turn.ensures.1 in
    rw (p.1, p.2, c.in_err-note_turn.ensures.refused)
    (λ readings. subst (λ (o : Option (List Given)). TurnBreaks c.args.engine.now.server (standing_of c.args.engine.now) (standing_of c.take_event.new.engine) c.args.at
    (told_by (g.L.Link.heard c.args.link.now) (g.L.Link.given c.args.link.now) readings
    (kept (g.J.Journal.written c.args.journal.now) (g.J.Journal.faulted c.args.journal.now))
    (kept (g.A.AuditLog.printed c.args.audit.now) (g.A.AuditLog.faulted c.args.audit.now)) (g.W.Rng.stream c.args.words.now))
    (told_by (g.L.Link.heard c.take_event.new.link) o readings (kept (g.J.Journal.written c.note_turn.new.journal) (g.J.Journal.faulted c.note_turn.new.journal))
    (kept (g.A.AuditLog.printed c.args.audit.now) (g.A.AuditLog.faulted c.args.audit.now)) (g.W.Rng.stream c.take_event.new.words)) Refusal.Journal)
    (sym c.take_event.ensures.given)
    (turn_untold c.args.engine.now.server (standing_of c.args.engine.now) c.args.at c.requires (g.L.Link.heard c.args.link.now) (g.L.Link.heard c.take_event.new.link)
    (g.L.Link.given c.args.link.now) readings (kept (g.J.Journal.written c.args.journal.now) (g.J.Journal.faulted c.args.journal.now))
    (kept (g.A.AuditLog.printed c.args.audit.now) (g.A.AuditLog.faulted c.args.audit.now)) (g.W.Rng.stream c.args.words.now) (g.W.Rng.stream c.take_event.new.words)
    (standing_of c.take_event.new.engine) (turn_at c.args.at c.in_ok-taken.taken.arrived (g.L.Link.held c.take_event.new.link)) c.in_ok-taken.taken.out
    c.in_ok-taken.ensures.taken (c.steps_stand_at_their_moments.ensures c.args.engine.now.server c.args.engine.now.state c.take_event.new.engine.state
    (ForEvent (event_of_turn (turn_at c.args.at c.in_ok-taken.taken.arrived (g.L.Link.held c.take_event.new.link)))) c.in_ok-taken.taken.out
    c.in_ok-taken.ensures.taken.step) (kept (g.J.Journal.written c.note_turn.new.journal) (g.J.Journal.faulted c.note_turn.new.journal))
    (c.in_err-note_turn.ensures.told, c.in_err-note_turn.ensures.said)))

pub returns-in_err-log_records-clause-broken : goal.returns-in_err-log_records-clause-broken
returns-in_err-log_records-clause-broken g c =
    let p = err_from_is_err_and c.from_residual-in_err-log_records.result c.from_residual-in_err-log_records.ensures.1 in
    rw (p.1, p.2)
    (λ readings. subst (λ (o : Option (List Given)). TurnBreaks c.args.engine.now.server (standing_of c.args.engine.now) (standing_of c.take_event.new.engine) c.args.at
    (told_by (g.L.Link.heard c.args.link.now) (g.L.Link.given c.args.link.now) readings
    (kept (g.J.Journal.written c.args.journal.now) (g.J.Journal.faulted c.args.journal.now))
    (kept (g.A.AuditLog.printed c.args.audit.now) (g.A.AuditLog.faulted c.args.audit.now)) (g.W.Rng.stream c.args.words.now))
    (told_by (g.L.Link.heard c.take_event.new.link) o readings (kept (g.J.Journal.written c.note_turn.new.journal) (g.J.Journal.faulted c.note_turn.new.journal))
    (kept (g.A.AuditLog.printed c.log_records.new.audit) (g.A.AuditLog.faulted c.log_records.new.audit)) (g.W.Rng.stream c.take_event.new.words))
    c.in_err-log_records.field-0.0) (sym c.take_event.ensures.given)
    (turn_unlogged c.args.engine.now.server (standing_of c.args.engine.now) c.args.at c.requires (g.L.Link.heard c.args.link.now) (g.L.Link.heard c.take_event.new.link)
    (g.L.Link.given c.args.link.now) readings (kept (g.J.Journal.written c.args.journal.now) (g.J.Journal.faulted c.args.journal.now))
    (kept (g.A.AuditLog.printed c.args.audit.now) (g.A.AuditLog.faulted c.args.audit.now)) (g.W.Rng.stream c.args.words.now) (g.W.Rng.stream c.take_event.new.words)
    (standing_of c.take_event.new.engine) (turn_at c.args.at c.in_ok-taken.taken.arrived (g.L.Link.held c.take_event.new.link)) c.in_ok-taken.taken.out
    c.in_ok-taken.ensures.taken (c.steps_stand_at_their_moments.ensures c.args.engine.now.server c.args.engine.now.state c.take_event.new.engine.state
    (ForEvent (event_of_turn (turn_at c.args.at c.in_ok-taken.taken.arrived (g.L.Link.held c.take_event.new.link)))) c.in_ok-taken.taken.out
    c.in_ok-taken.ensures.taken.step) (kept (g.J.Journal.written c.note_turn.new.journal) (g.J.Journal.faulted c.note_turn.new.journal))
    (kept (g.A.AuditLog.printed c.log_records.new.audit) (g.A.AuditLog.faulted c.log_records.new.audit)) c.in_err-log_records.field-0.0
    (subst (λ (l : List ℕ). Notes (g.J.Journal.written c.args.journal.now) (g.J.Journal.written c.note_turn.new.journal)
    (event_of_turn (turn_at c.args.at c.in_ok-taken.taken.arrived l) ∷ [])) c.bytes.ensures c.in_ok-note_turn.ensures.noted) c.in_ok-note_turn.ensures.whole
    (c.in_err-log_records.ensures.told, c.in_err-log_records.ensures.said) c.in_err-log_records.ensures.refused))

pub returns-clause-goes : goal.returns-clause-goes
returns-clause-goes g c =
    on_ok_weaker c.hand_out.result
    (λ handed readings. subst (λ (o : Option (List (Option HeardDatagram))). TurnGoes c.args.engine.now.server (standing_of c.args.engine.now)
    (standing_of c.hand_out.new.engine) c.args.at
    (told_by (g.L.Link.heard c.args.link.now) (g.L.Link.given c.args.link.now) readings
    (kept (g.J.Journal.written c.args.journal.now) (g.J.Journal.faulted c.args.journal.now))
    (kept (g.A.AuditLog.printed c.args.audit.now) (g.A.AuditLog.faulted c.args.audit.now)) (g.W.Rng.stream c.args.words.now))
    (told_by o (g.L.Link.given c.hand_out.new.link) readings (kept (g.J.Journal.written c.hand_out.new.journal) (g.J.Journal.faulted c.hand_out.new.journal))
    (kept (g.A.AuditLog.printed c.log_records.new.audit) (g.A.AuditLog.faulted c.log_records.new.audit)) (g.W.Rng.stream c.take_event.new.words)))
    (sym c.hand_out.ensures.heard)
    (turn_goes c.args.engine.now.server (standing_of c.args.engine.now) c.args.at c.requires (g.L.Link.heard c.args.link.now) (g.L.Link.heard c.take_event.new.link)
    (g.L.Link.given c.args.link.now) readings (kept (g.J.Journal.written c.args.journal.now) (g.J.Journal.faulted c.args.journal.now))
    (kept (g.A.AuditLog.printed c.args.audit.now) (g.A.AuditLog.faulted c.args.audit.now)) (g.W.Rng.stream c.args.words.now) (g.W.Rng.stream c.take_event.new.words)
    (standing_of c.take_event.new.engine) (turn_at c.args.at c.in_ok-taken.taken.arrived (g.L.Link.held c.take_event.new.link)) c.in_ok-taken.taken.out
    c.in_ok-taken.ensures.taken (c.steps_stand_at_their_moments.ensures c.args.engine.now.server c.args.engine.now.state c.take_event.new.engine.state
    (ForEvent (event_of_turn (turn_at c.args.at c.in_ok-taken.taken.arrived (g.L.Link.held c.take_event.new.link)))) c.in_ok-taken.taken.out
    c.in_ok-taken.ensures.taken.step) (standing_of c.hand_out.new.engine) (g.L.Link.given c.hand_out.new.link)
    (kept (g.J.Journal.written c.note_turn.new.journal) (g.J.Journal.faulted c.note_turn.new.journal))
    (kept (g.J.Journal.written c.hand_out.new.journal) (g.J.Journal.faulted c.hand_out.new.journal))
    (kept (g.A.AuditLog.printed c.log_records.new.audit) (g.A.AuditLog.faulted c.log_records.new.audit))
    (subst (λ (l : List ℕ). Notes (g.J.Journal.written c.args.journal.now) (g.J.Journal.written c.note_turn.new.journal)
    (event_of_turn (turn_at c.args.at c.in_ok-taken.taken.arrived l) ∷ [])) c.bytes.ensures c.in_ok-note_turn.ensures.noted) c.in_ok-note_turn.ensures.whole
    (rw c.as_slice.ensures at c.in_ok-log_records.ensures.printed) (rw c.as_slice.ensures at c.in_ok-log_records.ensures.whole) c.in_ok-log_records.ensures.held
    (subst (λ (s : Server). Course s (standing_of c.take_event.new.engine) (standing_of c.hand_out.new.engine)
    (waiting_at None c.in_ok-taken.taken.out.packets c.take_event.new.engine.state.moment) (waiting_at None [] c.hand_out.new.engine.state.moment)
    (told_with (record {
      heard = g.L.Link.heard c.take_event.new.link;
      readings = readings;
      log = kept (g.A.AuditLog.printed c.log_records.new.audit) (g.A.AuditLog.faulted c.log_records.new.audit);
      words = g.W.Rng.stream c.take_event.new.words;
    })
    (g.L.Link.given c.args.link.now) (kept (g.J.Journal.written c.note_turn.new.journal) (g.J.Journal.faulted c.note_turn.new.journal)))
    (told_with (record {
      heard = g.L.Link.heard c.take_event.new.link;
      readings = readings;
      log = kept (g.A.AuditLog.printed c.log_records.new.audit) (g.A.AuditLog.faulted c.log_records.new.audit);
      words = g.W.Rng.stream c.take_event.new.words;
    })
    (g.L.Link.given c.hand_out.new.link) (kept (g.J.Journal.written c.hand_out.new.journal) (g.J.Journal.faulted c.hand_out.new.journal))) [] 0 0)
    c.take_event.ensures.server
    (subst (λ (o : Option (List Given)). Course c.take_event.new.engine.server (standing_of c.take_event.new.engine) (standing_of c.hand_out.new.engine)
    (waiting_at None c.in_ok-taken.taken.out.packets c.take_event.new.engine.state.moment) (waiting_at None [] c.hand_out.new.engine.state.moment)
    (told_with (record {
      heard = g.L.Link.heard c.take_event.new.link;
      readings = readings;
      log = kept (g.A.AuditLog.printed c.log_records.new.audit) (g.A.AuditLog.faulted c.log_records.new.audit);
      words = g.W.Rng.stream c.take_event.new.words;
    }) o
    (kept (g.J.Journal.written c.note_turn.new.journal) (g.J.Journal.faulted c.note_turn.new.journal)))
    (told_with (record {
      heard = g.L.Link.heard c.take_event.new.link;
      readings = readings;
      log = kept (g.A.AuditLog.printed c.log_records.new.audit) (g.A.AuditLog.faulted c.log_records.new.audit);
      words = g.W.Rng.stream c.take_event.new.words;
    })
    (g.L.Link.given c.hand_out.new.link) (kept (g.J.Journal.written c.hand_out.new.journal) (g.J.Journal.faulted c.hand_out.new.journal))) [] 0 0)
    c.take_event.ensures.given
    (handed (record {
      heard = g.L.Link.heard c.take_event.new.link;
      readings = readings;
      log = kept (g.A.AuditLog.printed c.log_records.new.audit) (g.A.AuditLog.faulted c.log_records.new.audit);
      words = g.W.Rng.stream c.take_event.new.words;
    })
    None))))) c.hand_out.ensures.handed

pub returns-clause-broken : goal.returns-clause-broken
returns-clause-broken g c =
    IfErr-weaker c.hand_out.result
    (λ e. (others : Others) (turn : Option ℕ) → Breaks c.take_event.new.engine.server (standing_of c.take_event.new.engine) (standing_of c.hand_out.new.engine)
    (waiting_at turn c.in_ok-taken.taken.out.packets c.take_event.new.engine.state.moment)
    (told_with others (g.L.Link.given c.take_event.new.link) (kept (g.J.Journal.written c.note_turn.new.journal) (g.J.Journal.faulted c.note_turn.new.journal)))
    (told_with others (g.L.Link.given c.hand_out.new.link) (kept (g.J.Journal.written c.hand_out.new.journal) (g.J.Journal.faulted c.hand_out.new.journal))) 0 e)
    (λ e. (readings : Option (List ℕ)) → TurnBreaks c.args.engine.now.server (standing_of c.args.engine.now) (standing_of c.hand_out.new.engine) c.args.at
    (told_by (g.L.Link.heard c.args.link.now) (g.L.Link.given c.args.link.now) readings
    (kept (g.J.Journal.written c.args.journal.now) (g.J.Journal.faulted c.args.journal.now))
    (kept (g.A.AuditLog.printed c.args.audit.now) (g.A.AuditLog.faulted c.args.audit.now)) (g.W.Rng.stream c.args.words.now))
    (told_by (g.L.Link.heard c.hand_out.new.link) (g.L.Link.given c.hand_out.new.link) readings
    (kept (g.J.Journal.written c.hand_out.new.journal) (g.J.Journal.faulted c.hand_out.new.journal))
    (kept (g.A.AuditLog.printed c.log_records.new.audit) (g.A.AuditLog.faulted c.log_records.new.audit)) (g.W.Rng.stream c.take_event.new.words)) e)
    (λ e h readings. subst (λ (o : Option (List (Option HeardDatagram))). TurnBreaks c.args.engine.now.server (standing_of c.args.engine.now)
    (standing_of c.hand_out.new.engine) c.args.at
    (told_by (g.L.Link.heard c.args.link.now) (g.L.Link.given c.args.link.now) readings
    (kept (g.J.Journal.written c.args.journal.now) (g.J.Journal.faulted c.args.journal.now))
    (kept (g.A.AuditLog.printed c.args.audit.now) (g.A.AuditLog.faulted c.args.audit.now)) (g.W.Rng.stream c.args.words.now))
    (told_by o (g.L.Link.given c.hand_out.new.link) readings (kept (g.J.Journal.written c.hand_out.new.journal) (g.J.Journal.faulted c.hand_out.new.journal))
    (kept (g.A.AuditLog.printed c.log_records.new.audit) (g.A.AuditLog.faulted c.log_records.new.audit)) (g.W.Rng.stream c.take_event.new.words)) e)
    (sym c.hand_out.ensures.heard)
    (turn_unsent c.args.engine.now.server (standing_of c.args.engine.now) c.args.at c.requires (g.L.Link.heard c.args.link.now) (g.L.Link.heard c.take_event.new.link)
    (g.L.Link.given c.args.link.now) readings (kept (g.J.Journal.written c.args.journal.now) (g.J.Journal.faulted c.args.journal.now))
    (kept (g.A.AuditLog.printed c.args.audit.now) (g.A.AuditLog.faulted c.args.audit.now)) (g.W.Rng.stream c.args.words.now) (g.W.Rng.stream c.take_event.new.words)
    (standing_of c.take_event.new.engine) (turn_at c.args.at c.in_ok-taken.taken.arrived (g.L.Link.held c.take_event.new.link)) c.in_ok-taken.taken.out
    c.in_ok-taken.ensures.taken (c.steps_stand_at_their_moments.ensures c.args.engine.now.server c.args.engine.now.state c.take_event.new.engine.state
    (ForEvent (event_of_turn (turn_at c.args.at c.in_ok-taken.taken.arrived (g.L.Link.held c.take_event.new.link)))) c.in_ok-taken.taken.out
    c.in_ok-taken.ensures.taken.step) (standing_of c.hand_out.new.engine) (g.L.Link.given c.hand_out.new.link)
    (kept (g.J.Journal.written c.note_turn.new.journal) (g.J.Journal.faulted c.note_turn.new.journal))
    (kept (g.J.Journal.written c.hand_out.new.journal) (g.J.Journal.faulted c.hand_out.new.journal))
    (kept (g.A.AuditLog.printed c.log_records.new.audit) (g.A.AuditLog.faulted c.log_records.new.audit)) e
    (subst (λ (l : List ℕ). Notes (g.J.Journal.written c.args.journal.now) (g.J.Journal.written c.note_turn.new.journal)
    (event_of_turn (turn_at c.args.at c.in_ok-taken.taken.arrived l) ∷ [])) c.bytes.ensures c.in_ok-note_turn.ensures.noted) c.in_ok-note_turn.ensures.whole
    (rw c.as_slice.ensures at c.in_ok-log_records.ensures.printed) (rw c.as_slice.ensures at c.in_ok-log_records.ensures.whole) c.in_ok-log_records.ensures.held
    (subst (λ (s : Server). Breaks s (standing_of c.take_event.new.engine) (standing_of c.hand_out.new.engine)
    (waiting_at None c.in_ok-taken.taken.out.packets c.take_event.new.engine.state.moment)
    (told_with (record {
      heard = g.L.Link.heard c.take_event.new.link;
      readings = readings;
      log = kept (g.A.AuditLog.printed c.log_records.new.audit) (g.A.AuditLog.faulted c.log_records.new.audit);
      words = g.W.Rng.stream c.take_event.new.words;
    })
    (g.L.Link.given c.args.link.now) (kept (g.J.Journal.written c.note_turn.new.journal) (g.J.Journal.faulted c.note_turn.new.journal)))
    (told_with (record {
      heard = g.L.Link.heard c.take_event.new.link;
      readings = readings;
      log = kept (g.A.AuditLog.printed c.log_records.new.audit) (g.A.AuditLog.faulted c.log_records.new.audit);
      words = g.W.Rng.stream c.take_event.new.words;
    })
    (g.L.Link.given c.hand_out.new.link) (kept (g.J.Journal.written c.hand_out.new.journal) (g.J.Journal.faulted c.hand_out.new.journal))) 0 e)
    c.take_event.ensures.server
    (subst (λ (o : Option (List Given)). Breaks c.take_event.new.engine.server (standing_of c.take_event.new.engine) (standing_of c.hand_out.new.engine)
    (waiting_at None c.in_ok-taken.taken.out.packets c.take_event.new.engine.state.moment)
    (told_with (record {
      heard = g.L.Link.heard c.take_event.new.link;
      readings = readings;
      log = kept (g.A.AuditLog.printed c.log_records.new.audit) (g.A.AuditLog.faulted c.log_records.new.audit);
      words = g.W.Rng.stream c.take_event.new.words;
    }) o
    (kept (g.J.Journal.written c.note_turn.new.journal) (g.J.Journal.faulted c.note_turn.new.journal)))
    (told_with (record {
      heard = g.L.Link.heard c.take_event.new.link;
      readings = readings;
      log = kept (g.A.AuditLog.printed c.log_records.new.audit) (g.A.AuditLog.faulted c.log_records.new.audit);
      words = g.W.Rng.stream c.take_event.new.words;
    })
    (g.L.Link.given c.hand_out.new.link) (kept (g.J.Journal.written c.hand_out.new.journal) (g.J.Journal.faulted c.hand_out.new.journal))) 0 e)
    c.take_event.ensures.given
    (h (record {
      heard = g.L.Link.heard c.take_event.new.link;
      readings = readings;
      log =
          kept (g.A.AuditLog.printed c.log_records.new.audit) (g.A.AuditLog.faulted c.log_records.new.audit);
      words = g.W.Rng.stream c.take_event.new.words;
    }) None)))))
    c.hand_out.ensures.broken
