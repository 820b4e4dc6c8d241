use Rattle.std.proofs.Common.{refl}
use Rattle.std.specs.Fmt.{digits}
use Rattle.sipd_expect.proofs.log_examples.unknown_user.Goals as goal

pub returns : goal.returns
unfolding digits
returns c = refl
