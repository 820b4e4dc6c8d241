use Rattle.std.proofs.Common.{refl}
use Rattle.std.specs.Fmt.{digits}
use Rattle.sipd_report.specs.Calendar.{day_behind}
use Rattle.sipd_standing.proofs.examples.standing_example.Goals as goal

pub returns-clause-talks : goal.returns-clause-talks
unfolding digits day_behind
returns-clause-talks c = refl

pub returns-clause-rings : goal.returns-clause-rings
unfolding digits day_behind
returns-clause-rings c = refl

pub returns-clause-over : goal.returns-clause-over
unfolding digits day_behind
returns-clause-over c = refl
