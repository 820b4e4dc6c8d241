use Rattle.sipd_service.specs.Turns.{service_seen}
use Rattle.sipd_service.proofs.Turning.{ends_on, serves_on}
use Rattle.sipd_service.proofs.service.serve_on.Goals as goal

pub returns-clause-served : goal.returns-clause-served
returns-clause-served g c =
    serves_on c.do_turns.result c.args.served.now.address c.args.served.now.decided.now c.args.turns
    (service_seen c.args.service.now.engine c.args.service.now.port c.args.service.now.watch c.args.service.now.stated
    c.args.service.now.link (g.C.Clock.readings c.args.service.now.clock)
    (g.J.Journal.written c.args.service.now.journal) (g.J.Journal.faulted c.args.service.now.journal) (g.N.Rng.stream c.args.service.now.words)
    c.args.printer.now.has_failed (g.O.Write.contents c.args.printer.now.output))
    (service_seen c.do_turns.new.service.engine c.do_turns.new.service.port c.do_turns.new.service.watch c.do_turns.new.service.stated
    c.do_turns.new.service.link
    (g.C.Clock.readings c.do_turns.new.service.clock) (g.J.Journal.written c.do_turns.new.service.journal) (g.J.Journal.faulted c.do_turns.new.service.journal)
    (g.N.Rng.stream c.do_turns.new.service.words) c.do_turns.new.printer.has_failed (g.O.Write.contents c.do_turns.new.printer.output))
    (g.O.Write.contents c.args.printer.now.output) (g.O.Write.contents c.print_start.new.printer.output) (g.O.Write.contents c.do_turns.new.printer.output)
    c.print_start.new.printer.has_failed c.do_turns.new.printer.has_failed
    c.in_ok-print_start.ensures.failed c.do_turns.ensures.failed c.in_ok-print_start.ensures.printed c.do_turns.ensures.turns

pub returns-clause-ended : goal.returns-clause-ended
returns-clause-ended g c =
    ends_on c.do_turns.result c.args.served.now.address c.args.served.now.decided.now c.args.turns
    (service_seen c.args.service.now.engine c.args.service.now.port c.args.service.now.watch c.args.service.now.stated
    c.args.service.now.link (g.C.Clock.readings c.args.service.now.clock)
    (g.J.Journal.written c.args.service.now.journal) (g.J.Journal.faulted c.args.service.now.journal) (g.N.Rng.stream c.args.service.now.words)
    c.args.printer.now.has_failed (g.O.Write.contents c.args.printer.now.output))
    (service_seen c.do_turns.new.service.engine c.do_turns.new.service.port c.do_turns.new.service.watch c.do_turns.new.service.stated
    c.do_turns.new.service.link
    (g.C.Clock.readings c.do_turns.new.service.clock) (g.J.Journal.written c.do_turns.new.service.journal) (g.J.Journal.faulted c.do_turns.new.service.journal)
    (g.N.Rng.stream c.do_turns.new.service.words) c.do_turns.new.printer.has_failed (g.O.Write.contents c.do_turns.new.printer.output))
    (g.O.Write.contents c.args.printer.now.output) (g.O.Write.contents c.print_start.new.printer.output) c.print_start.new.printer.has_failed c.do_turns.new.printer.fault
    c.in_ok-print_start.ensures.failed c.in_ok-print_start.ensures.printed c.do_turns.ensures.ended
