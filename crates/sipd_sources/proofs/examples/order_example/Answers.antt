use Rattle.std.proofs.Common.{refl}
use Rattle.sipd_sources.proofs.examples.order_example.Goals as goal

pub returns : goal.returns
returns c = refl
