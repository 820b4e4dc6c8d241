use Rattle.sip_digest.proofs.Replays.{stale_once_spent}
use Rattle.sip_digest.proofs.laws.spent_credential_is_stale.Goals as goal

pub returns : goal.returns
returns c = stale_once_spent
