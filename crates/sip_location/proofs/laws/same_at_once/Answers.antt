use Rattle.sip_location.proofs.Sameness.{same_at_once}
use Rattle.sip_location.proofs.laws.same_at_once.Goals as goal

pub returns : goal.returns
returns c = same_at_once
