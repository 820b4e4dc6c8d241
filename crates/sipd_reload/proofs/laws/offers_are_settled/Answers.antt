use Rattle.sipd_reload.proofs.Offers.{offer_is}
use Rattle.sipd_reload.proofs.laws.offers_are_settled.Goals as goal

pub returns : goal.returns
returns c = offer_is
