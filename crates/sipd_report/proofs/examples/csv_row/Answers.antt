use Rattle.std.proofs.Common.{refl}
use Rattle.std.specs.Fmt.{digits}
use Rattle.sipd_report.specs.Calendar.{day_behind}
use Rattle.sipd_report.proofs.examples.csv_row.Goals as goal

pub returns : goal.returns
unfolding digits day_behind
returns c = refl
