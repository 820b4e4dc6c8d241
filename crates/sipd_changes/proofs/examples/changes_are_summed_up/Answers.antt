use Rattle.std.proofs.Common.{refl}
use Rattle.std.specs.Fmt.{digits}
use Rattle.sipd_changes.proofs.examples.changes_are_summed_up.Goals as goal

pub returns-clause-users : goal.returns-clause-users
unfolding digits
returns-clause-users c = refl

pub returns-clause-same_users : goal.returns-clause-same_users
unfolding digits
returns-clause-same_users c = refl

pub returns-clause-nobody : goal.returns-clause-nobody
unfolding digits
returns-clause-nobody c = refl
