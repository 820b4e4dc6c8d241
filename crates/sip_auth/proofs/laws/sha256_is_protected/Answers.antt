use Rattle.sip_auth.proofs.Algorithms.{sha256_protected}
use Rattle.sip_auth.proofs.laws.sha256_is_protected.Goals as goal

pub returns : goal.returns
returns c = sha256_protected
