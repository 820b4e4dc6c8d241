use Rattle.sip_model.proofs.StepsAlike.{steps_alike}
use Rattle.sip_model.proofs.histories.steps_same.Goals as goal

pub returns : goal.returns
returns c = steps_alike
