use Rattle.std.proofs.Common.{◌≡◌, ◌∙◌, ℕ, refl, subst, arith}
use Rattle.std.proofs.lemmas.Result.{err_from_is_err_and}
use Rattle.sipd_service.specs.Turns.{AreTurns, service_seen}
use Rattle.sipd_service.proofs.Turning.{turn_more}
use Rattle.sipd_service.proofs.service.do_turns.Goals as goal

pub loop-init : goal.loop-init
loop-init g c = (refl, refl)

pub loop-preserved : goal.loop-preserved
loop-preserved g c = (
  c.in_ok-do_turn.ensures.failed ∙ c.loop.invariant.0,
  turn_more c.loop.counter
      (service_seen c.args.service.now.engine c.args.service.now.port c.args.service.now.watch c.args.service.now.stated
      c.args.service.now.link (g.C.Clock.readings c.args.service.now.clock)
      (g.J.Journal.written c.args.service.now.journal) (g.J.Journal.faulted c.args.service.now.journal) (g.N.Rng.stream c.args.service.now.words)
      c.args.printer.now.has_failed (g.O.Write.contents c.args.printer.now.output))
      (service_seen c.loop.service.engine c.loop.service.port c.loop.service.watch c.loop.service.stated
      c.loop.service.link (g.C.Clock.readings c.loop.service.clock)
      (g.J.Journal.written c.loop.service.journal) (g.J.Journal.faulted c.loop.service.journal) (g.N.Rng.stream c.loop.service.words) c.loop.printer.has_failed
      (g.O.Write.contents c.loop.printer.output))
      (service_seen c.do_turn.new.service.engine c.do_turn.new.service.port c.do_turn.new.service.watch c.do_turn.new.service.stated
      c.do_turn.new.service.link
      (g.C.Clock.readings c.do_turn.new.service.clock) (g.J.Journal.written c.do_turn.new.service.journal) (g.J.Journal.faulted c.do_turn.new.service.journal)
      (g.N.Rng.stream c.do_turn.new.service.words) c.do_turn.new.printer.has_failed (g.O.Write.contents c.do_turn.new.printer.output))
      c.loop.invariant.1 c.in_ok-do_turn.ensures.turn,
)

pub returns-in_err-do_turn-clause-ended : goal.returns-in_err-do_turn-clause-ended
returns-in_err-do_turn-clause-ended g c =
    let p = err_from_is_err_and c.from_residual.result c.from_residual.ensures.1 in
    rw (p.1, p.2) (record {
      number = c.loop.counter;
      within = c.loop-test.true;
      middle = (service_seen c.loop.service.engine c.loop.service.port c.loop.service.watch c.loop.service.stated
          c.loop.service.link (g.C.Clock.readings c.loop.service.clock)
          (g.J.Journal.written c.loop.service.journal) (g.J.Journal.faulted c.loop.service.journal) (g.N.Rng.stream c.loop.service.words) c.loop.printer.has_failed
          (g.O.Write.contents c.loop.printer.output));
      whole = c.loop.invariant.1;
      last = c.in_err-do_turn.ensures.ended;
    })

pub returns-clause-turns : goal.returns-clause-turns
returns-clause-turns g c =
    let all : c.loop.counter ≡ c.args.turns = omega (arith, c.loop-test.false, c.loop.auto.counter-end) in
    subst (λ (n : ℕ). AreTurns n
    (service_seen c.args.service.now.engine c.args.service.now.port c.args.service.now.watch c.args.service.now.stated
    c.args.service.now.link (g.C.Clock.readings c.args.service.now.clock)
    (g.J.Journal.written c.args.service.now.journal) (g.J.Journal.faulted c.args.service.now.journal) (g.N.Rng.stream c.args.service.now.words)
    c.args.printer.now.has_failed (g.O.Write.contents c.args.printer.now.output))
    (service_seen c.loop.service.engine c.loop.service.port c.loop.service.watch c.loop.service.stated
    c.loop.service.link (g.C.Clock.readings c.loop.service.clock)
    (g.J.Journal.written c.loop.service.journal) (g.J.Journal.faulted c.loop.service.journal) (g.N.Rng.stream c.loop.service.words) c.loop.printer.has_failed
    (g.O.Write.contents c.loop.printer.output))) all c.loop.invariant.1
