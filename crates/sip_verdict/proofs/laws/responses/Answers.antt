use Rattle.sip_verdict.proofs.DecidingKeys.{lost, found}
use Rattle.sip_verdict.proofs.laws.responses.Goals as goal

pub returns-clause-lost : goal.returns-clause-lost
returns-clause-lost c = lost

pub returns-clause-found : goal.returns-clause-found
returns-clause-found c = found
