use Rattle.model_transactions.proofs.Staying.{resent_fits, repeated_fits}
use Rattle.model_transactions.proofs.fitting_events.goes_again_fitting.Goals as goal

pub returns-clause-branch : goal.returns-clause-branch
returns-clause-branch c = resent_fits

pub returns-clause-answer : goal.returns-clause-answer
returns-clause-answer c = repeated_fits
