use Rattle.sip_location.proofs.Sameness.{same_as_registered}
use Rattle.sip_location.proofs.laws.same_as_registered.Goals as goal

pub returns : goal.returns
returns c = same_as_registered
