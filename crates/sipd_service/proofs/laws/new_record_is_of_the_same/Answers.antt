use Rattle.sipd_service.proofs.GoingOver.{over_to_same, turns_keep}
use Rattle.sipd_service.proofs.laws.new_record_is_of_the_same.Goals as goal

pub returns-clause-kept : goal.returns-clause-kept
returns-clause-kept c = turns_keep

pub returns-clause-same : goal.returns-clause-same
returns-clause-same c = over_to_same
