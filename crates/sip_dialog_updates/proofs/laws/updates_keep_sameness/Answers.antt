use Rattle.sip_dialog_updates.proofs.Order.{updates_same}
use Rattle.sip_dialog_updates.proofs.laws.updates_keep_sameness.Goals as goal

pub returns : goal.returns
returns c = updates_same
