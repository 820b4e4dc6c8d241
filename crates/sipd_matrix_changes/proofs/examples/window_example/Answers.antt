use Rattle.std.proofs.Common.{refl}
use Rattle.std.specs.Fmt.{digits}
use Rattle.sip_matrix.specs.Day.{pieces_below}
use Rattle.sipd_matrix_changes.proofs.examples.window_example.Goals as goal

pub returns-clause-by_night : goal.returns-clause-by_night
unfolding digits pieces_below
returns-clause-by_night c = refl

pub returns-clause-by_day : goal.returns-clause-by_day
unfolding digits pieces_below
returns-clause-by_day c = refl

pub returns-clause-evening : goal.returns-clause-evening
unfolding digits pieces_below
returns-clause-evening c = refl

pub returns-clause-others : goal.returns-clause-others
unfolding digits pieces_below
returns-clause-others c = refl
