use Rattle.std.proofs.Common.{refl, ◌∙◌, ap}
use Rattle.sipd_command.specs.Starts.{decided_before}
use Rattle.sipd_command.proofs.Printed.{prints_as}
use Rattle.sipd_command.proofs.serving.serve_begun.Goals as goal

pub returns-in_default : goal.returns-in_default
returns-in_default g c = prints_as c.serve_with-served.result c.args.start.turns c.args.start.turns c.args.start.address c.args.start.address _
    (decided_before c.args.begun.last) (g.W.Write.contents c.args.printer.now.output) (g.W.Write.contents c.serve_with-served.new.printer.output)
    refl refl (c.decided_by-decided.ensures ∙ ap decided_before c.into_parts-engine.ensures.last) c.serve_with-served.ensures

pub returns : goal.returns
returns g c = prints_as c.serve_with-served-2.result c.args.start.turns c.args.start.turns c.args.start.address c.args.start.address _
    (decided_before c.args.begun.last) (g.W.Write.contents c.args.printer.now.output) (g.W.Write.contents c.serve_with-served-2.new.printer.output)
    refl refl (c.decided_by-decided.ensures ∙ ap decided_before c.into_parts-engine.ensures.last) c.serve_with-served-2.ensures
