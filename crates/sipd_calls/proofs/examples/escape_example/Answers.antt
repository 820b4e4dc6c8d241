use Rattle.std.proofs.Common.{refl}
use Rattle.sipd_calls.proofs.examples.escape_example.Goals as goal

pub returns : goal.returns
returns c = refl
