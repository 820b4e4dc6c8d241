use Rattle.sip_message.proofs.Again.{again}
use Rattle.sip_message.proofs.laws.written_again.Goals as goal

pub returns : goal.returns
returns c = again
