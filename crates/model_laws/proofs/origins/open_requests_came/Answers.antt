use Rattle.model_laws.proofs.Requests.{chain_come}
use Rattle.model_laws.proofs.origins.open_requests_came.Goals as goal

pub returns : goal.returns
returns c = chain_come c.steps_have_parts.ensures
