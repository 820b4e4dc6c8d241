use Rattle.model_laws.proofs.CallAnswers.{late_refused}
use Rattle.model_laws.proofs.extra_answers.late_ringing_stays.Goals as goal

pub returns : goal.returns
returns c = late_refused
