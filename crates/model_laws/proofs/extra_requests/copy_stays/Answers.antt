use Rattle.model_laws.proofs.CallRequests.{copied_refused}
use Rattle.model_laws.proofs.extra_requests.copy_stays.Goals as goal

pub returns : goal.returns
returns c = copied_refused
