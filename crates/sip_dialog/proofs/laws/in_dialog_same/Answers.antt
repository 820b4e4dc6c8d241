use Rattle.sip_dialog.proofs.Sameness.{in_dialog_same}
use Rattle.sip_dialog.proofs.laws.in_dialog_same.Goals as goal

pub returns : goal.returns
returns c = in_dialog_same
