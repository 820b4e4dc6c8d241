use Rattle.std.proofs.Common.{refl}
use Rattle.std.specs.Fmt.{digits}
use Rattle.sipd_report.specs.Calendar.{day_behind}
use Rattle.sipd_calls.proofs.examples.moment_example.Goals as goal

pub returns-clause-row : goal.returns-clause-row
unfolding digits day_behind
returns-clause-row c = refl

pub returns-clause-title : goal.returns-clause-title
unfolding digits day_behind
returns-clause-title c = refl

pub returns-clause-short : goal.returns-clause-short
unfolding digits day_behind
returns-clause-short c = refl

pub returns-clause-long : goal.returns-clause-long
unfolding digits day_behind
returns-clause-long c = refl
