use Rattle.sip_model.proofs.Followed.{dialogs_of_chain}
use Rattle.sip_model.proofs.histories.dialogs_are_taught.Goals as goal

pub returns : goal.returns
returns c = dialogs_of_chain
