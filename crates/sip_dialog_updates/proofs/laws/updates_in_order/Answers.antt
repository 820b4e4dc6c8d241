use Rattle.sip_dialog_updates.proofs.Order.{after_more}
use Rattle.sip_dialog_updates.proofs.laws.updates_in_order.Goals as goal

pub returns : goal.returns
returns c = after_more
