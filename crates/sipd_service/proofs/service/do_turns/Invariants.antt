use Rattle.std.proofs.Common.{◌≡◌}
use Rattle.sipd_service.specs.Turns.{AreTurns, service_seen}
use Rattle.sipd_service.proofs.service.do_turns.Given as goal

abbrev pub invariant-loop : goal.invariant-loop
invariant-loop g l =
    (l.printer.has_failed ≡ l.initial.printer.has_failed)
    × AreTurns l.counter
    (service_seen l.initial.service.engine l.initial.service.port l.initial.service.watch l.initial.service.stated
    l.initial.service.link (g.C.Clock.readings l.initial.service.clock)
    (g.J.Journal.written l.initial.service.journal) (g.J.Journal.faulted l.initial.service.journal) (g.N.Rng.stream l.initial.service.words)
    l.initial.printer.has_failed (g.O.Write.contents l.initial.printer.output))
    (service_seen l.service.engine l.service.port l.service.watch l.service.stated
    l.service.link (g.C.Clock.readings l.service.clock) (g.J.Journal.written l.service.journal)
    (g.J.Journal.faulted l.service.journal) (g.N.Rng.stream l.service.words) l.printer.has_failed (g.O.Write.contents l.printer.output))
