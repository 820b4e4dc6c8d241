use Rattle.std.proofs.Common.{refl}
use Rattle.sip_model.proofs.Listing.{all_listed}
use Rattle.sip_model.proofs.histories.listed_are_live.Goals as goal

pub returns-clause-sends : goal.returns-clause-sends
returns-clause-sends c = λ server a m q id rows state. refl

pub returns-clause-live : goal.returns-clause-live
returns-clause-live c = all_listed
