use Rattle.sip_location.proofs.Updates.{few_ever}
use Rattle.sip_location.proofs.laws.none_above_sixteen.Goals as goal

pub returns : goal.returns
returns c = few_ever
