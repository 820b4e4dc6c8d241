use Rattle.std.proofs.Common.{refl}
use Rattle.std.specs.Fmt.{digits}
use Rattle.sipd_changes.proofs.examples.hosts_are_told.Goals as goal

pub returns-clause-moves : goal.returns-clause-moves
unfolding digits
returns-clause-moves c = refl

pub returns-clause-goes : goal.returns-clause-goes
unfolding digits
returns-clause-goes c = refl
