use Rattle.model_laws.proofs.CallAnswers.{passed_refused}
use Rattle.model_laws.proofs.extra_answers.trying_stays.Goals as goal

pub returns : goal.returns
returns c = passed_refused
