use Rattle.sip_location.proofs.Updates.{live_edited}
use Rattle.sip_location.proofs.laws.live_bindings_are_edited.Goals as goal

pub returns : goal.returns
returns c = live_edited
