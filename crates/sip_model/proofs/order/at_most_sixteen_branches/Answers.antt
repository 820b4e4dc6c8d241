use Rattle.sip_model.proofs.Fit.{chain_sixteen}
use Rattle.sip_model.proofs.order.at_most_sixteen_branches.Goals as goal

pub returns : goal.returns
returns c = chain_sixteen
