use Rattle.model_laws.proofs.CallRequests.{cancel_refused_refused}
use Rattle.model_laws.proofs.extra_requests.refused_cancel_gets_no_ack.Goals as goal

pub returns : goal.returns
returns c = cancel_refused_refused
