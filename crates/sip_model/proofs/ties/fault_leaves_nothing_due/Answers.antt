use Rattle.sip_model.proofs.Faults.{fault_leaves}
use Rattle.sip_model.proofs.ties.fault_leaves_nothing_due.Goals as goal

pub returns : goal.returns
returns c = fault_leaves
