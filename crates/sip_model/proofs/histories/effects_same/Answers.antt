use Rattle.sip_model.proofs.Alike.{effects_alike}
use Rattle.sip_model.proofs.histories.effects_same.Goals as goal

pub returns : goal.returns
returns c = effects_alike
