use Rattle.std.proofs.Common.{refl}
use Rattle.sip_days.proofs.examples.registered_twice.Goals as goal

pub returns : goal.returns
returns c = λ config. refl
