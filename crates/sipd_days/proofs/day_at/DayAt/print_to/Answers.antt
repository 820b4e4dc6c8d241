use Rattle.sipd_days.proofs.Printing.{done}
use Rattle.sipd_days.proofs.day_at.DayAt.print_to.Goals as goal

pub returns-in-Ok-clause-printed : goal.returns-in-Ok-clause-printed
returns-in-Ok-clause-printed g c = done _ c.ended.result (rw c.as_slice.ensures at c.in-Ok.ensures.printed)
