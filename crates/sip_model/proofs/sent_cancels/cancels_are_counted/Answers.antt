use Rattle.sip_model.proofs.CancelTexts.{cancel_own}
use Rattle.sip_model.proofs.sent_cancels.cancels_are_counted.Goals as goal

pub returns : goal.returns
returns c = cancel_own
