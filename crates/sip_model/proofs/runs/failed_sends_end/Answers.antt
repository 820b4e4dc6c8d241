use Rattle.sip_model.proofs.StepsLeft.{fault_ends, fault_leaves}
use Rattle.sip_model.proofs.runs.failed_sends_end.Goals as goal

pub returns-clause-packets : goal.returns-clause-packets
returns-clause-packets c = fault_ends

pub returns-clause-steps : goal.returns-clause-steps
returns-clause-steps c = fault_leaves
