use Rattle.sip_matrix.proofs.Everywhere.{no_fault}
use Rattle.sip_matrix.proofs.laws.examples_stand_for_all.Goals as goal

pub returns : goal.returns
returns c = no_fault
