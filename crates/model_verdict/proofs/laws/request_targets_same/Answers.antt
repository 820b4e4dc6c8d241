use Rattle.model_verdict.proofs.Sameness.{request_targets_same}
use Rattle.model_verdict.proofs.laws.request_targets_same.Goals as goal

pub returns : goal.returns
returns c = request_targets_same
