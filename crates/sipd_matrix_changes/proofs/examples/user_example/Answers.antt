use Rattle.std.proofs.Common.{refl}
use Rattle.std.specs.Fmt.{digits}
use Rattle.sip_matrix.specs.Day.{pieces_below}
use Rattle.sipd_matrix_changes.proofs.examples.user_example.Goals as goal

pub returns-clause-own : goal.returns-clause-own
unfolding digits pieces_below
returns-clause-own c = refl

pub returns-clause-other : goal.returns-clause-other
unfolding digits pieces_below
returns-clause-other c = refl
