use Rattle.sip_model.proofs.CountsRise.{counts_of_chain}
use Rattle.sip_model.proofs.histories.no_credential_counts_twice.Goals as goal

pub returns : goal.returns
returns c = counts_of_chain
