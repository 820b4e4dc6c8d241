use Rattle.sip_model.proofs.Followed.{records_of_chain}
use Rattle.sip_model.proofs.histories.records_are_of_verdicts.Goals as goal

pub returns : goal.returns
returns c = records_of_chain
