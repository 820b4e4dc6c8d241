use Rattle.sip_proxy.proofs.Places.{others}
use Rattle.sip_proxy.proofs.cancelling.others_keep_their_places.Goals as goal

pub returns : goal.returns
returns c = others
