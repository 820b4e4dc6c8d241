use Rattle.sip_model.proofs.Sameness.{dialogs_after_same}
use Rattle.sip_model.proofs.histories.dialogs_after_same.Goals as goal

pub returns : goal.returns
returns c = dialogs_after_same
