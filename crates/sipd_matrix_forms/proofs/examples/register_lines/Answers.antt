use Rattle.std.proofs.Common.{refl}
use Rattle.std.specs.Fmt.{digits}
use Rattle.sip_matrix.specs.Day.{pieces_below}
use Rattle.sipd_matrix_forms.proofs.examples.register_lines.Goals as goal

pub returns : goal.returns
unfolding digits pieces_below
returns c = refl
