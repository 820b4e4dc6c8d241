use Rattle.std.proofs.Common.{refl}
use Rattle.std.specs.Fmt.{digits}
use Rattle.sipd_report.specs.Calendar.{day_behind}
use Rattle.sipd_calls.proofs.examples.table_example.Goals as goal

pub returns : goal.returns
unfolding digits day_behind
returns c = refl
