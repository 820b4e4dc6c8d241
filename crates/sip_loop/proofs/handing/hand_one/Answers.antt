use Rattle.std.proofs.Common.{◌≡◌, ◌∙◌, ap, drop, get_or, sym, subst, List, Option, ℕ}
use Rattle.std.proofs.lemmas.Result.{err_from_is_err_and, on_ok_weaker, IfErr-weaker}
use Rattle.sip_run.specs.Due.{standing_of}
use Rattle.sip_loop.specs.declared.serve_error.ServeError.TheVariants.{NoMemory}
use Rattle.sip_event.specs.declared.packet.Packet.{Packet}
use Rattle.sip_run.specs.engine.Engine.{Engine}
use Rattle.sip_model.specs.TimerOrder.{Standing}
use Rattle.sip_loop.specs.Courses.{Breaks, Others, told_with, waiting_at}
use Rattle.sip_loop.specs.Serving.{kept}
use Rattle.sip_loop.proofs.Handed.{faulted, faulted_some, unfaulted, unsent, untold, went}
use Rattle.sip_loop.proofs.handing.hand_one.Goals as goal

pub returns-in_err-send-clause-broken : goal.returns-in_err-send-clause-broken
returns-in_err-send-clause-broken g c =
    let p = err_from_is_err_and c.from_residual.result c.from_residual.ensures.1 in
    rw p.1
    (λ others turn. unsent c.args.engine.now.server (standing_of c.args.engine.now) (drop c.args.place c.args.packets.now) others turn (g.L.Link.given c.args.link.now)
    (g.L.Link.given c.send.new.self) (kept (g.J.Journal.written c.args.journal.now) (g.J.Journal.faulted c.args.journal.now))
    p.0 c.in_err-send.ensures.err p.2)

pub returns-in_err-out-in-Failed-clause-broken : goal.returns-in_err-out-in-Failed-clause-broken
returns-in_err-out-in-Failed-clause-broken g c =
    let p = err_from_is_err_and c.from_residual-in_err-out-in-Failed.result c.from_residual-in_err-out-in-Failed.ensures.1 in
    let x : Packet = c.index-as_slice-place.result in
    rw p.1
    (λ others turn. subst (λ (s : Standing). Breaks c.args.engine.now.server (standing_of c.args.engine.now) s
    (waiting_at turn (drop c.args.place c.args.packets.now) c.args.engine.now.state.moment)
    (told_with others (g.L.Link.given c.args.link.now) (kept (g.J.Journal.written c.args.journal.now) (g.J.Journal.faulted c.args.journal.now)))
    (told_with others (g.L.Link.given c.send.new.self) (kept (g.J.Journal.written c.args.journal.now) (g.J.Journal.faulted c.args.journal.now))) 0 p.0)
    (sym (ap (λ (e : Engine). standing_of e) c.in_err-out-in-Failed.ensures.unchanged))
    (unfaulted c.args.engine.now.server (standing_of c.args.engine.now) c.args.packets.now c.args.place x c.requires.there
    (subst (λ (l : List Packet). x ≡ get_or l c.args.place x) c.as_slice.ensures c.index-as_slice-place.is)
    others turn (g.L.Link.given c.args.link.now) (g.L.Link.given c.send.new.self) (kept (g.J.Journal.written c.args.journal.now) (g.J.Journal.faulted c.args.journal.now))
    p.0 (p.2 ∙ c.in_err-out-in-Failed.ensures.refused) (rw (c.in-Failed.is, c.as_slice-2.ensures) at c.in_ok-send.ensures.ok)))

pub returns-in_err-failed-in-Failed-clause-broken : goal.returns-in_err-failed-in-Failed-clause-broken
returns-in_err-failed-in-Failed-clause-broken g c =
    let p = err_from_is_err_and c.from_residual-in_err-failed-in-Failed.result c.from_residual-in_err-failed-in-Failed.ensures.1 in
    let x : Packet = c.index-as_slice-place.result in
    rw (p.1, p.2)
    (λ others turn. untold c.args.engine.now.server (standing_of c.args.engine.now) c.args.packets.now c.args.place x c.requires.there
    (subst (λ (l : List Packet). x ≡ get_or l c.args.place x) c.as_slice.ensures c.index-as_slice-place.is)
    others turn (g.L.Link.given c.args.link.now) (g.L.Link.given c.send.new.self) (kept (g.J.Journal.written c.args.journal.now) (g.J.Journal.faulted c.args.journal.now))
    (standing_of c.take_fault.new.engine) c.in_ok-out-in-Failed.out
    (rw (c.in-Failed.is, c.as_slice-2.ensures) at c.in_ok-send.ensures.ok) c.in_ok-out-in-Failed.ensures.taken
    (kept (g.J.Journal.written c.failed.new.self) (g.J.Journal.faulted c.failed.new.self))
    (c.in_err-failed-in-Failed.ensures.failed, c.in_err-failed-in-Failed.ensures.said))

pub returns-in-Went-clause-handed : goal.returns-in-Went-clause-handed
returns-in-Went-clause-handed g c =
    let x : Packet = c.index-as_slice-place.result in
    λ others turn. went c.args.engine.now.server (standing_of c.args.engine.now) c.args.packets.now c.args.place x c.requires.there
    (subst (λ (l : List Packet). x ≡ get_or l c.args.place x) c.as_slice.ensures c.index-as_slice-place.is)
    others turn (g.L.Link.given c.args.link.now) (g.L.Link.given c.send.new.self) (kept (g.J.Journal.written c.args.journal.now) (g.J.Journal.faulted c.args.journal.now))
    (rw (c.in-Went.is, c.as_slice-2.ensures) at c.in_ok-send.ensures.ok)

pub returns-in_ok-failed-in-Failed-clause-handed : goal.returns-in_ok-failed-in-Failed-clause-handed
returns-in_ok-failed-in-Failed-clause-handed g c =
    let x : Packet = c.index-as_slice-place.result in
    on_ok_weaker c.add_packets.result
    (λ added others turn. faulted c.args.engine.now.server (standing_of c.args.engine.now) c.args.packets.now c.args.place x c.requires.there
    (subst (λ (l : List Packet). x ≡ get_or l c.args.place x) c.as_slice.ensures c.index-as_slice-place.is)
    others turn (g.L.Link.given c.args.link.now) (g.L.Link.given c.send.new.self) (kept (g.J.Journal.written c.args.journal.now) (g.J.Journal.faulted c.args.journal.now))
    (standing_of c.take_fault.new.engine) c.in_ok-out-in-Failed.out
    (rw (c.in-Failed.is, c.as_slice-2.ensures) at c.in_ok-send.ensures.ok) c.in_ok-out-in-Failed.ensures.taken
    (kept (g.J.Journal.written c.failed.new.self) (g.J.Journal.faulted c.failed.new.self)) c.add_packets.new.packets added
    (rw c.moment-at.ensures.value at c.in_ok-failed-in-Failed.ensures.noted) c.in_ok-failed-in-Failed.ensures.whole)
    (rw c.as_slice-in-Failed.ensures at c.add_packets.ensures.added)

pub returns-in_ok-failed-in-Failed-clause-broken : goal.returns-in_ok-failed-in-Failed-clause-broken
returns-in_ok-failed-in-Failed-clause-broken g c =
    let x : Packet = c.index-as_slice-place.result in
    IfErr-weaker c.add_packets.result
    (λ e. e ≡ NoMemory)
    (λ e. (others : Others) (turn : Option ℕ) → Breaks c.args.engine.now.server (standing_of c.args.engine.now) (standing_of c.take_fault.new.engine)
    (waiting_at turn (drop c.args.place c.args.packets.now) c.args.engine.now.state.moment)
    (told_with others (g.L.Link.given c.args.link.now) (kept (g.J.Journal.written c.args.journal.now) (g.J.Journal.faulted c.args.journal.now)))
    (told_with others (g.L.Link.given c.send.new.self) (kept (g.J.Journal.written c.failed.new.self) (g.J.Journal.faulted c.failed.new.self))) 0 e)
    (λ e is others turn. faulted_some c.args.engine.now.server (standing_of c.args.engine.now) c.args.packets.now c.args.place x c.requires.there
    (subst (λ (l : List Packet). x ≡ get_or l c.args.place x) c.as_slice.ensures c.index-as_slice-place.is)
    others turn (g.L.Link.given c.args.link.now) (g.L.Link.given c.send.new.self) (kept (g.J.Journal.written c.args.journal.now) (g.J.Journal.faulted c.args.journal.now))
    (standing_of c.take_fault.new.engine) c.in_ok-out-in-Failed.out
    (rw (c.in-Failed.is, c.as_slice-2.ensures) at c.in_ok-send.ensures.ok) c.in_ok-out-in-Failed.ensures.taken
    (kept (g.J.Journal.written c.failed.new.self) (g.J.Journal.faulted c.failed.new.self)) e is
    (rw c.moment-at.ensures.value at c.in_ok-failed-in-Failed.ensures.noted) c.in_ok-failed-in-Failed.ensures.whole)
    c.add_packets.ensures.refused
