use Rattle.sip_matrix.proofs.Found.{own_is_known}
use Rattle.sip_matrix.proofs.laws.own_addresses_are_known.Goals as goal

pub returns-clause-user : goal.returns-clause-user
returns-clause-user c = own_is_known
