use Rattle.sip_model.proofs.Allowed.{allowed_is}
use Rattle.sip_model.proofs.laws.allowed_registers_are_allowed.Goals as goal

pub returns : goal.returns
returns c = allowed_is
