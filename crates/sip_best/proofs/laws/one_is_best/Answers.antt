use Rattle.sip_best.proofs.Choices.{one_goes_up}
use Rattle.sip_best.proofs.laws.one_is_best.Goals as goal

pub returns : goal.returns
returns c = one_goes_up
