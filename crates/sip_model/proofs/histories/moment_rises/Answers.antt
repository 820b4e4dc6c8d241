use Rattle.sip_model.proofs.Moments.{moment_of_chain_rises}
use Rattle.sip_model.proofs.histories.moment_rises.Goals as goal

pub returns : goal.returns
returns c = moment_of_chain_rises
