use Rattle.sipd_command.specs.Starts.{bound_address, decided_before}
use Rattle.sipd_command.proofs.Printed.{prints_at}
use Rattle.sipd_command.proofs.serving.serve_recorded.Goals as goal

pub returns : goal.returns
returns g c = prints_at c.serve_begun.result c.in_ok-start.start.turns c.args.call.now.turns c.in_ok-start.start.address (bound_address c.args.config.now)
    (decided_before c.in_ok-begun.begun.last) (g.W.Write.contents c.args.printer.now.output) (g.W.Write.contents c.serve_begun.new.printer.output)
    c.in_ok-start.ensures.turns c.in_ok-start.ensures.address c.serve_begun.ensures
