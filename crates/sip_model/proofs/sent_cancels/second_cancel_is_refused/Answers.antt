use Rattle.sip_model.proofs.SecondCancels.{second_refused}
use Rattle.sip_model.proofs.sent_cancels.second_cancel_is_refused.Goals as goal

pub returns : goal.returns
returns c = second_refused
