use Rattle.model_transactions.specs.Near.{IsBranchWithin}
use Rattle.model_transactions.proofs.Lists.{all_contains, all_find}
use Rattle.model_transactions.proofs.bounds.branches_are_within.Goals as goal

pub returns-clause-each : goal.returns-clause-each
returns-clause-each c = λ bound r b w there. all_contains (IsBranchWithin bound) r.branches b w.branches_within there

pub returns-clause-found : goal.returns-clause-found
returns-clause-found c = λ bound r test w. all_find (IsBranchWithin bound) test r.branches w.branches_within
