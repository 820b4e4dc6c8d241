use Rattle.sip_location.proofs.Updates.{few_live}
use Rattle.sip_location.proofs.laws.at_most_sixteen.Goals as goal

pub returns : goal.returns
returns c = few_live
