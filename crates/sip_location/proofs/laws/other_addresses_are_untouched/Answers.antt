use Rattle.sip_location.proofs.Updates.{live_elsewhere}
use Rattle.sip_location.proofs.laws.other_addresses_are_untouched.Goals as goal

pub returns : goal.returns
returns c = live_elsewhere
