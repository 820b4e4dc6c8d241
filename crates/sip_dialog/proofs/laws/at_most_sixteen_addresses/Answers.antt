use Rattle.sip_dialog.proofs.Counts.{few_held}
use Rattle.sip_dialog.proofs.laws.at_most_sixteen_addresses.Goals as goal

pub returns : goal.returns
returns c = few_held
