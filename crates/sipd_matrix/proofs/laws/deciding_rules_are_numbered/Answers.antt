use Rattle.sipd_matrix.proofs.Numbered.{numbered_there}
use Rattle.sipd_matrix.proofs.laws.deciding_rules_are_numbered.Goals as goal

pub returns : goal.returns
returns c = numbered_there
