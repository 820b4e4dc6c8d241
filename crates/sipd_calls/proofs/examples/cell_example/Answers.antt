use Rattle.std.proofs.Common.{refl}
use Rattle.sipd_calls.proofs.examples.cell_example.Goals as goal

pub returns : goal.returns
returns c = refl
