use Rattle.model_laws.proofs.Timing.{answered_refused, copied_refused}
use Rattle.model_laws.proofs.wrong_times.moments_come_first.Goals as goal

pub returns-clause-answered : goal.returns-clause-answered
returns-clause-answered c = answered_refused

pub returns-clause-copied : goal.returns-clause-copied
returns-clause-copied c = copied_refused
