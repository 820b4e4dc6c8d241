use Rattle.sip_matrix.proofs.Others.{asked_has_others}
use Rattle.sip_matrix.proofs.laws.others_are_asked_for.Goals as goal

pub returns : goal.returns
returns c = asked_has_others
