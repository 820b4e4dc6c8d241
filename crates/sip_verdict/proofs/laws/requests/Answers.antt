use Rattle.sip_verdict.proofs.DecidingKeys.{new_request, open_request}
use Rattle.sip_verdict.proofs.laws.requests.Goals as goal

pub returns-clause-new_request : goal.returns-clause-new_request
returns-clause-new_request c = new_request

pub returns-clause-open_request : goal.returns-clause-open_request
returns-clause-open_request c = open_request
