use Rattle.sipd_command.proofs.Printed.{prints_for}
use Rattle.sipd_command.proofs.serving.serve_with.Goals as goal

pub returns : goal.returns
returns g c = prints_for c.serve_turns-served.result c.args.start.turns c.args.start.address c.args.decided.now (g.W.Write.contents c.args.printer.now.output)
    (g.W.Write.contents c.serve_turns-served.new.printer.output) c.serve_turns-served.ensures.printed
