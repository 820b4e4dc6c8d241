use Rattle.model_verdict.proofs.Alike.{verdicts_alike}
use Rattle.model_verdict.proofs.laws.verdicts_same.Goals as goal

pub returns : goal.returns
returns c = verdicts_alike
