use Rattle.sip_matrix.proofs.Owned.{asked_has_own, own_is_asked}
use Rattle.sip_matrix.proofs.laws.own_values_are_asked.Goals as goal

pub returns-clause-asked : goal.returns-clause-asked
returns-clause-asked c = asked_has_own

pub returns-clause-only : goal.returns-clause-only
returns-clause-only c = own_is_asked
