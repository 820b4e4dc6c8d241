use Rattle.std.proofs.Common.{ap, ◌∙◌}
use Rattle.sipd_matrix.specs.Text.{text_of}
use Rattle.sipd_matrix.proofs.text.matrix_text.Goals as goal

pub returns : goal.returns
returns c = c.in_ok-text.ensures ∙ ap (text_of c.args.config.now c.args.operation.now) c.in_ok-table.ensures
