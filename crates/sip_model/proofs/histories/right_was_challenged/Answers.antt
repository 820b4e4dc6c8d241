use Rattle.sip_model.proofs.Challenged.{challenged_before}
use Rattle.sip_model.proofs.histories.right_was_challenged.Goals as goal

pub returns : goal.returns
returns c = challenged_before
