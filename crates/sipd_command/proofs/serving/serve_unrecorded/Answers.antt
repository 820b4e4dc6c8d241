use Rattle.std.proofs.Common.{[], refl}
use Rattle.sipd_command.specs.Starts.{bound_address}
use Rattle.sipd_command.proofs.Printed.{prints_as}
use Rattle.sipd_command.proofs.serving.serve_unrecorded.Goals as goal

pub returns : goal.returns
returns g c = prints_as c.serve_with.result c.in_ok-start.start.turns c.args.call.now.turns c.in_ok-start.start.address (bound_address c.args.config.now) [] []
    (g.W.Write.contents c.args.printer.now.output) (g.W.Write.contents c.serve_with.new.printer.output)
    c.in_ok-start.ensures.turns c.in_ok-start.ensures.address refl c.serve_with.ensures
