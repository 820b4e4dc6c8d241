use Rattle.model_transactions.proofs.Staying.{closing_all, sent_fits, within_fits, begun_fits}
use Rattle.model_transactions.proofs.fitting_events.opens_fitting.Goals as goal

pub returns-clause-answered : goal.returns-clause-answered
returns-clause-answered c = closing_all

pub returns-clause-sent : goal.returns-clause-sent
returns-clause-sent c = sent_fits

pub returns-clause-sent_within : goal.returns-clause-sent_within
returns-clause-sent_within c = within_fits

pub returns-clause-begun : goal.returns-clause-begun
returns-clause-begun c = begun_fits
