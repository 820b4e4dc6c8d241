use Rattle.std.proofs.Common.{refl}
use Rattle.std.specs.Fmt.{digits}
use Rattle.sip_matrix.specs.Day.{pieces_below}
use Rattle.sipd_matrix_forms.proofs.examples.invite_lines.Goals as goal

pub returns-clause-outside : goal.returns-clause-outside
unfolding digits pieces_below
returns-clause-outside c = refl

pub returns-clause-elsewhere : goal.returns-clause-elsewhere
unfolding digits pieces_below
returns-clause-elsewhere c = refl
