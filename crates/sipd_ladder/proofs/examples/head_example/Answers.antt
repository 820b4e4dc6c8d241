use Rattle.std.proofs.Common.{refl}
use Rattle.std.specs.Fmt.{digits}
use Rattle.sipd_report.specs.Calendar.{day_behind}
use Rattle.sipd_ladder.proofs.examples.head_example.Goals as goal

pub returns-clause-names : goal.returns-clause-names
unfolding digits day_behind
returns-clause-names c = refl

pub returns-clause-addresses : goal.returns-clause-addresses
unfolding digits day_behind
returns-clause-addresses c = refl

pub returns-clause-title : goal.returns-clause-title
unfolding digits day_behind
returns-clause-title c = refl
