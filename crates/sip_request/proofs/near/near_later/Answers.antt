use Rattle.sip_request.proofs.Walking.{IsNear-later}
use Rattle.sip_request.proofs.near.near_later.Goals as goal

pub returns : goal.returns
returns c = IsNear-later
