use Rattle.model_transactions.proofs.Near.{deadlines_near, resends_near}
use Rattle.model_transactions.proofs.bounds.moments_are_near.Goals as goal

pub returns-clause-deadlines : goal.returns-clause-deadlines
returns-clause-deadlines c = deadlines_near

pub returns-clause-resends : goal.returns-clause-resends
returns-clause-resends c = resends_near
