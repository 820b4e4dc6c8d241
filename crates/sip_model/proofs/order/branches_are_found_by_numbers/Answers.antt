use Rattle.sip_model.proofs.Fit.{chain_by_numbers}
use Rattle.sip_model.proofs.order.branches_are_found_by_numbers.Goals as goal

pub returns : goal.returns
returns c = chain_by_numbers
