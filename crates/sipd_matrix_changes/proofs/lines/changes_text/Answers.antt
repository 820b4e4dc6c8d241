use Rattle.std.proofs.Common.{ap, ◌∙◌}
use Rattle.sipd_matrix_changes.specs.Lines.{lines_of}
use Rattle.sipd_matrix_changes.proofs.lines.changes_text.Goals as goal

pub returns : goal.returns
returns c = c.in_ok-text.ensures ∙ ap (lines_of c.args.old.now c.args.new.now c.args.operation.now) c.in_ok-table.ensures
