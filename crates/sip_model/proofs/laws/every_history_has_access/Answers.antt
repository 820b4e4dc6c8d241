use Rattle.sip_model.proofs.Lawful.{access_of_chain}
use Rattle.sip_model.proofs.laws.every_history_has_access.Goals as goal

pub returns : goal.returns
returns c = access_of_chain
