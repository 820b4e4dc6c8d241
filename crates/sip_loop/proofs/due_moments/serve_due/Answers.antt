use Rattle.std.proofs.Common.{◌≡◌, ◌≤◌, ℕ, [], None, Some, max, subst, List, Option}
use Rattle.std.proofs.lemmas.Result.{err_from_is_err_and, on_ok_weaker, IfErr-weaker}
use Rattle.sip_event.specs.declared.packet.Packet.{Packet}
use Rattle.sip_model.specs.state.declared.server.Server.{Server}
use Rattle.sip_run.specs.Due.{standing_of}
use Rattle.sip_loop.specs.Courses.{Breaks, Course, Others, TakesDue, told_with, waiting_at}
use Rattle.sip_loop.specs.Serving.{kept}
use Rattle.sip_loop.specs.ServeErrors.{IsOfHanding}
use Rattle.sip_loop.proofs.Courses.{course_on}
use Rattle.sip_loop.proofs.WhatIsDue.{due_broken, due_told, due_untold, fewer_on, some_not_journal, some_not_link}
use Rattle.sip_loop.proofs.Handed.{breaks_on}
use Rattle.sip_loop.proofs.Turning.{handing_journal, handing_not_link}
use Rattle.sip_loop.specs.declared.serve_error.ServeError.TheVariants as Refusal
use Rattle.sip_loop.proofs.due_moments.serve_due.Goals as goal

pub returns-in_err-take_due-clause-broken : goal.returns-in_err-take_due-clause-broken
returns-in_err-take_due-clause-broken g c =
    let p = err_from_is_err_and c.from_residual.result c.from_residual.ensures.1 in
    rw (p.1, p.2)
    (λ others reading le. due_broken c.args.engine.now.server (standing_of c.args.engine.now) (standing_of c.take_due.new.engine) reading c.args.due
    (told_with others (g.L.Link.given c.args.link.now) (kept (g.J.Journal.written c.args.journal.now) (g.J.Journal.faulted c.args.journal.now)))
    c.in_err-take_due.field-0.0 le c.requires c.in_err-take_due.ensures.refused)

pub returns-in_err-take_due-clause-not_link : goal.returns-in_err-take_due-clause-not_link
returns-in_err-take_due-clause-not_link g c =
    let p = err_from_is_err_and c.from_residual.result c.from_residual.ensures.1 in
    rw (p.1, p.2) (some_not_link c.args.engine.now.server (standing_of c.args.engine.now) (standing_of c.take_due.new.engine) c.args.due c.in_err-take_due.field-0.0
    c.in_err-take_due.ensures.refused)

pub returns-in_err-take_due-clause-journal_failed : goal.returns-in_err-take_due-clause-journal_failed
returns-in_err-take_due-clause-journal_failed g c =
    let p = err_from_is_err_and c.from_residual.result c.from_residual.ensures.1 in
    rw (p.1, p.2) (λ is. absurd (some_not_journal c.args.engine.now.server (standing_of c.args.engine.now) (standing_of c.take_due.new.engine) c.args.due
    c.in_err-take_due.field-0.0 c.in_err-take_due.ensures.refused is))

pub returns-in_err-passed-clause-broken : goal.returns-in_err-passed-clause-broken
returns-in_err-passed-clause-broken g c =
    let p = err_from_is_err_and c.from_residual-in_err-passed.result c.from_residual-in_err-passed.ensures.1 in
    rw (p.1, p.2)
    (λ others reading le. due_untold c.args.engine.now.server (standing_of c.args.engine.now) (standing_of c.take_due.new.engine) reading c.args.due
    c.take_due.new.waiting others
    (g.L.Link.given c.args.link.now) (kept (g.J.Journal.written c.args.journal.now) (g.J.Journal.faulted c.args.journal.now))
    (kept (g.J.Journal.written c.passed.new.self) (g.J.Journal.faulted c.passed.new.self)) le
    (subst (λ (l : List Packet). TakesDue c.args.engine.now.server (standing_of c.args.engine.now) (standing_of c.take_due.new.engine) c.args.due l
    c.take_due.new.waiting) c.new-waiting.ensures c.in_ok-take_due.ensures.taken) (c.in_err-passed.ensures.failed, c.in_err-passed.ensures.said))

pub returns-clause-goes : goal.returns-clause-goes
returns-clause-goes g c =
    on_ok_weaker c.hand_out.result
    (λ handed others reading le. course_on c.args.engine.now.server (standing_of c.args.engine.now) (standing_of c.take_due.new.engine)
    (standing_of c.hand_out.new.engine)
    (waiting_at (Some reading) [] c.args.engine.now.state.moment) (waiting_at (Some reading) c.take_due.new.waiting c.take_due.new.engine.state.moment)
    (waiting_at (Some reading) [] c.hand_out.new.engine.state.moment)
    (told_with others (g.L.Link.given c.args.link.now) (kept (g.J.Journal.written c.args.journal.now) (g.J.Journal.faulted c.args.journal.now)))
    (told_with others (g.L.Link.given c.args.link.now) (kept (g.J.Journal.written c.passed.new.self) (g.J.Journal.faulted c.passed.new.self)))
    (told_with others (g.L.Link.given c.hand_out.new.link) (kept (g.J.Journal.written c.hand_out.new.journal) (g.J.Journal.faulted c.hand_out.new.journal))) [] [] 0 0 0 0
    tt
    (due_told c.args.engine.now.server (standing_of c.args.engine.now) (standing_of c.take_due.new.engine) reading c.args.due c.take_due.new.waiting others
    (g.L.Link.given c.args.link.now) (kept (g.J.Journal.written c.args.journal.now) (g.J.Journal.faulted c.args.journal.now))
    (kept (g.J.Journal.written c.passed.new.self) (g.J.Journal.faulted c.passed.new.self)) le
    (subst (λ (l : List Packet). TakesDue c.args.engine.now.server (standing_of c.args.engine.now) (standing_of c.take_due.new.engine) c.args.due l
    c.take_due.new.waiting) c.new-waiting.ensures c.in_ok-take_due.ensures.taken) c.in_ok-passed.ensures.noted c.in_ok-passed.ensures.whole)
    (subst (λ (s : Server). Course s (standing_of c.take_due.new.engine) (standing_of c.hand_out.new.engine)
    (waiting_at (Some reading) c.take_due.new.waiting c.take_due.new.engine.state.moment) (waiting_at (Some reading) [] c.hand_out.new.engine.state.moment)
    (told_with others (g.L.Link.given c.args.link.now) (kept (g.J.Journal.written c.passed.new.self) (g.J.Journal.faulted c.passed.new.self)))
    (told_with others (g.L.Link.given c.hand_out.new.link) (kept (g.J.Journal.written c.hand_out.new.journal) (g.J.Journal.faulted c.hand_out.new.journal))) [] 0 0)
    c.take_due.ensures.server (handed others (Some reading)))) c.hand_out.ensures.handed

pub returns-clause-broken : goal.returns-clause-broken
returns-clause-broken g c =
    IfErr-weaker c.hand_out.result
    (λ e. (others : Others) (turn : Option ℕ) → Breaks c.take_due.new.engine.server (standing_of c.take_due.new.engine) (standing_of c.hand_out.new.engine)
    (waiting_at turn c.take_due.new.waiting c.take_due.new.engine.state.moment)
    (told_with others (g.L.Link.given c.args.link.now) (kept (g.J.Journal.written c.passed.new.self) (g.J.Journal.faulted c.passed.new.self)))
    (told_with others (g.L.Link.given c.hand_out.new.link) (kept (g.J.Journal.written c.hand_out.new.journal) (g.J.Journal.faulted c.hand_out.new.journal))) 0 e)
    (λ e. (others : Others) (reading : ℕ) → c.args.due ≤ max reading c.args.engine.now.state.moment
    → Breaks c.args.engine.now.server (standing_of c.args.engine.now) (standing_of c.hand_out.new.engine)
    (waiting_at (Some reading) [] c.args.engine.now.state.moment)
    (told_with others (g.L.Link.given c.args.link.now) (kept (g.J.Journal.written c.args.journal.now) (g.J.Journal.faulted c.args.journal.now)))
    (told_with others (g.L.Link.given c.hand_out.new.link) (kept (g.J.Journal.written c.hand_out.new.journal) (g.J.Journal.faulted c.hand_out.new.journal))) 0 e)
    (λ e h others reading le. breaks_on c.args.engine.now.server (standing_of c.args.engine.now) (standing_of c.take_due.new.engine) (standing_of c.hand_out.new.engine)
    (waiting_at (Some reading) [] c.args.engine.now.state.moment) (waiting_at (Some reading) c.take_due.new.waiting c.take_due.new.engine.state.moment)
    (told_with others (g.L.Link.given c.args.link.now) (kept (g.J.Journal.written c.args.journal.now) (g.J.Journal.faulted c.args.journal.now)))
    (told_with others (g.L.Link.given c.args.link.now) (kept (g.J.Journal.written c.passed.new.self) (g.J.Journal.faulted c.passed.new.self)))
    (told_with others (g.L.Link.given c.hand_out.new.link) (kept (g.J.Journal.written c.hand_out.new.journal) (g.J.Journal.faulted c.hand_out.new.journal))) [] 0 0 0 e tt
    (due_told c.args.engine.now.server (standing_of c.args.engine.now) (standing_of c.take_due.new.engine) reading c.args.due c.take_due.new.waiting others
    (g.L.Link.given c.args.link.now) (kept (g.J.Journal.written c.args.journal.now) (g.J.Journal.faulted c.args.journal.now))
    (kept (g.J.Journal.written c.passed.new.self) (g.J.Journal.faulted c.passed.new.self)) le
    (subst (λ (l : List Packet). TakesDue c.args.engine.now.server (standing_of c.args.engine.now) (standing_of c.take_due.new.engine) c.args.due l
    c.take_due.new.waiting) c.new-waiting.ensures c.in_ok-take_due.ensures.taken) c.in_ok-passed.ensures.noted c.in_ok-passed.ensures.whole)
    (subst (λ (s : Server). Breaks s (standing_of c.take_due.new.engine) (standing_of c.hand_out.new.engine)
    (waiting_at (Some reading) c.take_due.new.waiting c.take_due.new.engine.state.moment)
    (told_with others (g.L.Link.given c.args.link.now) (kept (g.J.Journal.written c.passed.new.self) (g.J.Journal.faulted c.passed.new.self)))
    (told_with others (g.L.Link.given c.hand_out.new.link) (kept (g.J.Journal.written c.hand_out.new.journal) (g.J.Journal.faulted c.hand_out.new.journal))) 0 e)
    c.take_due.ensures.server (h others (Some reading)))) c.hand_out.ensures.broken

pub returns-clause-fewer : goal.returns-clause-fewer
returns-clause-fewer g c =
    on_ok_weaker c.hand_out.result
    (λ further. fewer_on c.args.engine.now.state c.take_due.new.engine.state c.hand_out.new.engine.state c.args.due c.in_ok-take_due.ensures.fewer further)
    c.hand_out.ensures.no_further

pub returns-clause-not_link : goal.returns-clause-not_link
returns-clause-not_link g c =
    IfErr-weaker c.hand_out.result (λ e. IsOfHanding e (g.J.Journal.written c.hand_out.new.journal)) (λ e. e ≡ Refusal.Link → ⊥)
    (λ e h. handing_not_link e (g.J.Journal.written c.hand_out.new.journal) h) c.hand_out.ensures.refused

pub returns-clause-journal_failed : goal.returns-clause-journal_failed
returns-clause-journal_failed g c =
    IfErr-weaker c.hand_out.result (λ e. IsOfHanding e (g.J.Journal.written c.hand_out.new.journal)) (λ e. e ≡ Refusal.Journal
    → g.J.Journal.written c.hand_out.new.journal ≡ None)
    (λ e h. handing_journal e (g.J.Journal.written c.hand_out.new.journal) h) c.hand_out.ensures.refused
