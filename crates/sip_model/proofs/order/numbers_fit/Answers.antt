use Rattle.sip_model.proofs.Fit.{chain_fits}
use Rattle.sip_model.proofs.order.numbers_fit.Goals as goal

pub returns : goal.returns
returns c = chain_fits
