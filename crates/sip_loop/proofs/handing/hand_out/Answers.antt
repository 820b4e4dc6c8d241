use Rattle.std.proofs.Common.{◌∙◌, ◌+◌, ◌≤◌, arith, List, [], drop, length, refl, subst}
use Rattle.std.proofs.lemmas.List.{drop_all}
use Rattle.sip_event.specs.declared.packet.Packet.{Packet}
use Rattle.std.proofs.lemmas.Result.{err_from_is_err_and}
use Rattle.sip_model.specs.state.declared.server.Server.{Server}
use Rattle.sip_run.specs.Due.{standing_of}
use Rattle.sip_loop.specs.Courses.{Breaks, Course, told_with, waiting_at}
use Rattle.sip_loop.specs.Serving.{kept}
use Rattle.sip_loop.proofs.Courses.{course_nothing, course_on}
use Rattle.sip_loop.proofs.WhatIsDue.{further_on, further_same}
use Rattle.sip_loop.proofs.Handed.{breaks_on}
use Rattle.sip_loop.proofs.handing.hand_out.Goals as goal

pub returns-in_err-hand_one-clause-broken : goal.returns-in_err-hand_one-clause-broken
returns-in_err-hand_one-clause-broken g c =
    let p = err_from_is_err_and c.from_residual.result c.from_residual.ensures.1 in
    rw (p.1, p.2)
    (λ others turn. breaks_on c.args.engine.now.server (standing_of c.args.engine.now) (standing_of c.loop-place.engine) (standing_of c.hand_one.new.engine)
    (waiting_at turn c.args.packets.now c.args.engine.now.state.moment) (waiting_at turn (drop c.loop-place.place c.loop-place.packets) c.loop-place.engine.state.moment)
    (told_with others (g.L.Link.given c.args.link.now) (kept (g.J.Journal.written c.args.journal.now) (g.J.Journal.faulted c.args.journal.now)))
    (told_with others (g.L.Link.given c.loop-place.link) (kept (g.J.Journal.written c.loop-place.journal) (g.J.Journal.faulted c.loop-place.journal)))
    (told_with others (g.L.Link.given c.hand_one.new.link) (kept (g.J.Journal.written c.hand_one.new.journal) (g.J.Journal.faulted c.hand_one.new.journal))) [] 0 0 0
    c.in_err-hand_one.field-0.0 tt (c.loop-place.invariant.7 others turn)
    (subst (λ (s : Server). Breaks s (standing_of c.loop-place.engine) (standing_of c.hand_one.new.engine)
    (waiting_at turn (drop c.loop-place.place c.loop-place.packets) c.loop-place.engine.state.moment)
    (told_with others (g.L.Link.given c.loop-place.link) (kept (g.J.Journal.written c.loop-place.journal) (g.J.Journal.faulted c.loop-place.journal)))
    (told_with others (g.L.Link.given c.hand_one.new.link) (kept (g.J.Journal.written c.hand_one.new.journal) (g.J.Journal.faulted c.hand_one.new.journal))) 0
    c.in_err-hand_one.field-0.0)
    c.loop-place.invariant.0 (c.in_err-hand_one.ensures.broken others turn)))

pub loop-place-preserved : goal.loop-place-preserved
loop-place-preserved g c = (
  c.hand_one.ensures.server ∙ c.loop-place.invariant.0,
  c.hand_one.ensures.receives ∙ c.loop-place.invariant.1,
  c.hand_one.ensures.failures ∙ c.loop-place.invariant.2,
  c.hand_one.ensures.heard ∙ c.loop-place.invariant.3,
  c.in_ok-hand_one.ensures.more,
  further_on c.args.engine.now.state c.loop-place.engine.state c.hand_one.new.engine.state c.loop-place.invariant.5 c.in_ok-hand_one.ensures.no_further,
  c.in_ok-hand_one.ensures.none_left,
  λ others turn. course_on c.args.engine.now.server (standing_of c.args.engine.now) (standing_of c.loop-place.engine) (standing_of c.hand_one.new.engine)
      (waiting_at turn c.args.packets.now c.args.engine.now.state.moment) (waiting_at turn (drop c.loop-place.place c.loop-place.packets)
      c.loop-place.engine.state.moment)
      (waiting_at turn (drop (c.loop-place.place + 1) c.hand_one.new.packets) c.hand_one.new.engine.state.moment)
      (told_with others (g.L.Link.given c.args.link.now) (kept (g.J.Journal.written c.args.journal.now) (g.J.Journal.faulted c.args.journal.now)))
      (told_with others (g.L.Link.given c.loop-place.link) (kept (g.J.Journal.written c.loop-place.journal) (g.J.Journal.faulted c.loop-place.journal)))
      (told_with others (g.L.Link.given c.hand_one.new.link) (kept (g.J.Journal.written c.hand_one.new.journal) (g.J.Journal.faulted c.hand_one.new.journal))) [] [] 0 0 0
      0 tt (c.loop-place.invariant.7 others turn)
      (subst (λ (s : Server). Course s (standing_of c.loop-place.engine) (standing_of c.hand_one.new.engine)
      (waiting_at turn (drop c.loop-place.place c.loop-place.packets) c.loop-place.engine.state.moment)
      (waiting_at turn (drop (c.loop-place.place + 1) c.hand_one.new.packets) c.hand_one.new.engine.state.moment)
      (told_with others (g.L.Link.given c.loop-place.link) (kept (g.J.Journal.written c.loop-place.journal) (g.J.Journal.faulted c.loop-place.journal)))
      (told_with others (g.L.Link.given c.hand_one.new.link) (kept (g.J.Journal.written c.hand_one.new.journal) (g.J.Journal.faulted c.hand_one.new.journal))) [] 0 0)
      c.loop-place.invariant.0 (c.in_ok-hand_one.ensures.handed others turn)),
  c.hand_one.ensures.link_waits ∙ c.loop-place.invariant.8,
)

pub loop-place-init : goal.loop-place-init
loop-place-init g c = (
  refl,
  refl,
  refl,
  refl,
  omega arith,
  further_same c.args.engine.now.state,
  c.requires,
  λ others turn. course_nothing c.args.engine.now.server (standing_of c.args.engine.now) (waiting_at turn c.args.packets.now c.args.engine.now.state.moment)
      (told_with others (g.L.Link.given c.args.link.now) (kept (g.J.Journal.written c.args.journal.now) (g.J.Journal.faulted c.args.journal.now))) tt,
  refl,
)

pub returns-clause-handed : goal.returns-clause-handed
returns-clause-handed g c =
    let past : length c.loop-place.packets ≤ c.loop-place.place = rw c.as_slice.ensures at c.loop-place-test.false in
    λ others turn. subst (λ (l : List Packet). Course c.args.engine.now.server (standing_of c.args.engine.now) (standing_of c.loop-place.engine)
    (waiting_at turn c.args.packets.now c.args.engine.now.state.moment) (waiting_at turn l c.loop-place.engine.state.moment)
    (told_with others (g.L.Link.given c.args.link.now) (kept (g.J.Journal.written c.args.journal.now) (g.J.Journal.faulted c.args.journal.now)))
    (told_with others (g.L.Link.given c.loop-place.link) (kept (g.J.Journal.written c.loop-place.journal) (g.J.Journal.faulted c.loop-place.journal))) [] 0 0)
    (drop_all c.loop-place.place c.loop-place.packets past) (c.loop-place.invariant.7 others turn)
