use Rattle.sip_location.proofs.Updates.{none_expired}
use Rattle.sip_location.proofs.laws.live_bindings_have_not_expired.Goals as goal

pub returns : goal.returns
returns c = none_expired
