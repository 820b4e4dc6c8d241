use Rattle.model_verdict.proofs.Sameness.{registration_same}
use Rattle.model_verdict.proofs.laws.registration_same.Goals as goal

pub returns : goal.returns
returns c = registration_same
