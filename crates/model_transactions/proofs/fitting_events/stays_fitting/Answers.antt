use Rattle.model_transactions.proofs.Staying.{responded_fits, overdue_fits, side_overdue_fits, send_failed_fits, cancelled_fits_all, acknowledged_all}
use Rattle.model_transactions.proofs.fitting_events.stays_fitting.Goals as goal

pub returns-clause-responded : goal.returns-clause-responded
returns-clause-responded c = responded_fits

pub returns-clause-overdue : goal.returns-clause-overdue
returns-clause-overdue c = overdue_fits

pub returns-clause-side_overdue : goal.returns-clause-side_overdue
returns-clause-side_overdue c = side_overdue_fits

pub returns-clause-send_failed : goal.returns-clause-send_failed
returns-clause-send_failed c = send_failed_fits

pub returns-clause-cancelled : goal.returns-clause-cancelled
returns-clause-cancelled c = cancelled_fits_all

pub returns-clause-acknowledged : goal.returns-clause-acknowledged
returns-clause-acknowledged c = acknowledged_all
