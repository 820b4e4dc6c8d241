use Rattle.sip_uas.proofs.Final.{new_final}
use Rattle.sip_uas.proofs.laws.new_verdict_answers_finally.Goals as goal

pub returns : goal.returns
returns c = new_final
