use Rattle.sip_guard.proofs.Parting.{admitted_by_its_own}
use Rattle.sip_guard.proofs.laws.sources_are_apart.Goals as goal

pub returns : goal.returns
returns c = admitted_by_its_own
