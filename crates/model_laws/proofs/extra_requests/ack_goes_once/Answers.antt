use Rattle.model_laws.proofs.CallRequests.{again_refused}
use Rattle.model_laws.proofs.extra_requests.ack_goes_once.Goals as goal

pub returns : goal.returns
returns c = again_refused
