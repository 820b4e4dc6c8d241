use Rattle.sip_engine_request.proofs.Failed.{fault_is}
use Rattle.sip_engine_request.proofs.open_laws.faults_fail_named_branches.Goals as goal

pub returns : goal.returns
returns c = fault_is
