use Rattle.model_laws.proofs.CallRequests.{unwanted_refused}
use Rattle.model_laws.proofs.GivingUp.{call_goes_on}
use Rattle.model_laws.proofs.extra_requests.ringing_goes_on.Goals as goal

pub returns-clause-nobody : goal.returns-clause-nobody
returns-clause-nobody c = call_goes_on

pub returns-clause-refused : goal.returns-clause-refused
returns-clause-refused c = unwanted_refused
