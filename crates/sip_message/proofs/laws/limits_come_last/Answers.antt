use Rattle.sip_message.proofs.Limits.{limits_last}
use Rattle.sip_message.proofs.laws.limits_come_last.Goals as goal

pub returns : goal.returns
returns c = limits_last
