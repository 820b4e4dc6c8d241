use Rattle.sip_model.proofs.StepsLeft.{ends}
use Rattle.sip_model.proofs.runs.what_is_due_ends.Goals as goal

pub returns : goal.returns
returns c = ends
