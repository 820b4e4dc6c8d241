use Rattle.sip_edit.proofs.BranchIds.{branch_read, branch_written}
use Rattle.sip_edit.proofs.laws.branches_are_read_back.Goals as goal

pub returns-clause-read : goal.returns-clause-read
returns-clause-read c = branch_read

pub returns-clause-written : goal.returns-clause-written
returns-clause-written c = branch_written
