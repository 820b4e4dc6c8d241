use Rattle.std.proofs.Common.{[]}
use Rattle.sipd_command.specs.Starts.{bound_address}
use Rattle.sipd_command.proofs.Printed.{prints_first, prints_somewhere}
use Rattle.sipd_command.proofs.serving.serve_file.Goals as goal

pub returns-in_default : goal.returns-in_default
returns-in_default g c = prints_first c.serve_unrecorded.result c.args.call.now.turns (bound_address c.in_ok-file.file.config) []
    (g.W.Write.contents c.args.printer.now.output) (g.W.Write.contents c.serve_unrecorded.new.printer.output) c.serve_unrecorded.ensures

pub returns : goal.returns
returns g c = prints_somewhere c.serve_placed.result c.args.call.now.turns (bound_address c.in_ok-file.file.config)
    (g.W.Write.contents c.args.printer.now.output) (g.W.Write.contents c.serve_placed.new.printer.output) c.serve_placed.ensures
