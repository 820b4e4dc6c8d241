use Rattle.sip_model.proofs.Lawful.{access_of_run}
use Rattle.sip_model.proofs.laws.every_run_has_access.Goals as goal

pub returns : goal.returns
returns c = access_of_run
