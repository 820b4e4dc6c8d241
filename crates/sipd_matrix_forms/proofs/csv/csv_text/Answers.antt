use Rattle.std.proofs.Common.{ap, ◌∙◌}
use Rattle.sipd_matrix_forms.specs.Csv.{csv_of}
use Rattle.sipd_matrix_forms.proofs.csv.csv_text.Goals as goal

pub returns : goal.returns
returns c = c.in_ok-text.ensures ∙ ap (csv_of c.args.config.now c.args.operation.now) c.in_ok-table.ensures
