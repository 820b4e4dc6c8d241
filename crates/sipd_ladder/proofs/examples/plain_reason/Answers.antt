use Rattle.std.proofs.Common.{refl}
use Rattle.std.specs.Fmt.{digits}
use Rattle.sipd_ladder.proofs.examples.plain_reason.Goals as goal

pub returns : goal.returns
unfolding digits
returns c = refl
