use Rattle.std.proofs.Common.{refl}
use Rattle.std.specs.Fmt.{digits}
use Rattle.sipd_report.specs.Calendar.{day_behind}
use Rattle.sipd_report.proofs.examples.clock_set_back.Goals as goal

pub returns-clause-row : goal.returns-clause-row
unfolding digits day_behind
returns-clause-row c = refl
