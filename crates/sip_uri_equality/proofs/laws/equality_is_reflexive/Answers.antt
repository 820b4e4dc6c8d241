use Rattle.sip_uri_equality.proofs.Equal.{reflexive}
use Rattle.sip_uri_equality.proofs.laws.equality_is_reflexive.Goals as goal

pub returns : goal.returns
returns c = reflexive
