use Rattle.std.proofs.Common.{refl}
use Rattle.sipd_report.specs.Calendar.{day_behind}
use Rattle.sipd_report.proofs.examples.dates.Goals as goal

pub returns-clause-first : goal.returns-clause-first
unfolding day_behind
returns-clause-first c = refl

pub returns-clause-leap : goal.returns-clause-leap
unfolding day_behind
returns-clause-leap c = refl

pub returns-clause-behind : goal.returns-clause-behind
unfolding day_behind
returns-clause-behind c = refl

pub returns-clause-later : goal.returns-clause-later
unfolding day_behind
returns-clause-later c = refl

pub returns-clause-no_leap : goal.returns-clause-no_leap
unfolding day_behind
returns-clause-no_leap c = refl

pub returns-clause-behind_it : goal.returns-clause-behind_it
unfolding day_behind
returns-clause-behind_it c = refl
