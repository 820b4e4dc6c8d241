use Rattle.model_laws.proofs.CallAnswers.{lost_refused}
use Rattle.model_laws.proofs.extra_answers.lost_answer_stays.Goals as goal

pub returns : goal.returns
returns c = lost_refused
