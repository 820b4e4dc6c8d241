use Rattle.std.proofs.Common.{refl}
use Rattle.std.specs.Fmt.{digits}
use Rattle.sipd_ladder_picture.proofs.examples.shown_example.Goals as goal

pub returns : goal.returns
unfolding digits
returns c = refl
