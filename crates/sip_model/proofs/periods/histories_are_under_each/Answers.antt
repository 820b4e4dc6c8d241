use Rattle.sip_model.proofs.Chains.{chain_under, chain_back}
use Rattle.sip_model.proofs.periods.histories_are_under_each.Goals as goal

pub returns : goal.returns
returns c = λ server config first history last. (chain_under server config first history last, chain_back server config first history last)
