use Rattle.sip_model.proofs.Went.{went_of_chain}
use Rattle.sip_model.proofs.order.what_goes_again_went_before.Goals as goal

pub returns : goal.returns
returns c = went_of_chain
