use Rattle.sip_message.proofs.SaysLaws.{one_said}
use Rattle.sip_message.proofs.laws.one_message.Goals as goal

pub returns : goal.returns
returns c = one_said
