use Rattle.sip_auth.proofs.RightAnswers.{right_rests}
use Rattle.sip_auth.proofs.laws.right_is_the_answer.Goals as goal

pub returns : goal.returns
returns c = right_rests
