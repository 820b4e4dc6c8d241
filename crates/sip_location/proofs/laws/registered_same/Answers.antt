use Rattle.sip_location.proofs.Sameness.{registered_same}
use Rattle.sip_location.proofs.laws.registered_same.Goals as goal

pub returns : goal.returns
returns c = registered_same
