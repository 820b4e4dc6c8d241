use Rattle.std.proofs.Common.{refl}
use Rattle.std.specs.Fmt.{digits}
use Rattle.sip_matrix.specs.Day.{pieces_below}
use Rattle.sipd_matrix_changes.proofs.examples.unasked_example.Goals as goal

pub returns : goal.returns
unfolding digits pieces_below
returns c = refl
