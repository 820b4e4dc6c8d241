use Rattle.std.proofs.Common.{inl}
use Rattle.std.proofs.lemmas.Result.{err_from_is_err_and, on_ok_weaker}
use Rattle.sipd_service.specs.Turns.{service_seen}
use Rattle.sipd_service.proofs.Turning.{counted_on, prints_served}
use Rattle.sipd_service.proofs.service.serve_counted.Goals as goal

pub returns-clause-printed : goal.returns-clause-printed
returns-clause-printed g c = on_ok_weaker c.print_turns.result
    (λ h. prints_served c.args.served.now.address c.args.served.now.decided.now c.args.turns
    (service_seen c.args.service.now.engine c.args.service.now.port c.args.service.now.watch c.args.service.now.stated
    c.args.service.now.link (g.C.Clock.readings c.args.service.now.clock)
    (g.J.Journal.written c.args.service.now.journal) (g.J.Journal.faulted c.args.service.now.journal) (g.N.Rng.stream c.args.service.now.words)
    c.args.printer.now.has_failed (g.O.Write.contents c.args.printer.now.output))
    (service_seen c.serve_on.new.service.engine c.serve_on.new.service.port c.serve_on.new.service.watch c.serve_on.new.service.stated
    c.serve_on.new.service.link
    (g.C.Clock.readings c.serve_on.new.service.clock) (g.J.Journal.written c.serve_on.new.service.journal) (g.J.Journal.faulted c.serve_on.new.service.journal)
    (g.N.Rng.stream c.serve_on.new.service.words) c.serve_on.new.printer.has_failed (g.O.Write.contents c.serve_on.new.printer.output))
    (g.O.Write.contents c.args.printer.now.output) (g.O.Write.contents c.serve_on.new.printer.output) (g.O.Write.contents c.print_turns.new.self.output)
    (rw c.from.ensures at c.in_ok-serve_on.ensures.served) h)
    c.print_turns.ensures.printed

pub returns-in_err-serve_on-clause-ended : goal.returns-in_err-serve_on-clause-ended
returns-in_err-serve_on-clause-ended g c =
    let p = err_from_is_err_and c.from_residual.result c.from_residual.ensures.1 in
    rw (p.1, p.2) (inl (rw c.from.ensures at c.in_err-serve_on.ensures.ended))

pub returns-clause-ended : goal.returns-clause-ended
returns-clause-ended g c =
    let served = rw c.from.ensures at c.in_ok-serve_on.ensures.served in
    counted_on c.print_turns.result c.args.served.now.address c.args.served.now.decided.now c.args.turns
    (service_seen c.args.service.now.engine c.args.service.now.port c.args.service.now.watch c.args.service.now.stated
    c.args.service.now.link (g.C.Clock.readings c.args.service.now.clock)
    (g.J.Journal.written c.args.service.now.journal) (g.J.Journal.faulted c.args.service.now.journal) (g.N.Rng.stream c.args.service.now.words)
    c.args.printer.now.has_failed (g.O.Write.contents c.args.printer.now.output))
    (service_seen c.serve_on.new.service.engine c.serve_on.new.service.port c.serve_on.new.service.watch c.serve_on.new.service.stated
    c.serve_on.new.service.link
    (g.C.Clock.readings c.serve_on.new.service.clock) (g.J.Journal.written c.serve_on.new.service.journal) (g.J.Journal.faulted c.serve_on.new.service.journal)
    (g.N.Rng.stream c.serve_on.new.service.words) c.print_turns.new.self.has_failed (g.O.Write.contents c.print_turns.new.self.output))
    (g.O.Write.contents c.args.printer.now.output) (g.O.Write.contents c.serve_on.new.printer.output) c.print_turns.new.self.fault
    (record { started = served.started; start = served.start; are_turns = served.are_turns }) c.print_turns.ensures.refused
