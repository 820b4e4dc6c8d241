use Rattle.sip_edit.proofs.BranchIds.{branches_apart}
use Rattle.sip_edit.proofs.laws.branches_tell_apart.Goals as goal

pub returns : goal.returns
returns c = branches_apart
