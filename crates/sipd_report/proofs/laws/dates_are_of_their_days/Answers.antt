use Rattle.sipd_report.proofs.DayNumbers.{date_is_days}
use Rattle.sipd_report.proofs.laws.dates_are_of_their_days.Goals as goal

pub returns : goal.returns
returns c = date_is_days
