use Rattle.sip_uri_equality.proofs.Equal.{symmetric}
use Rattle.sip_uri_equality.proofs.laws.equality_is_symmetric.Goals as goal

pub returns : goal.returns
returns c = symmetric
