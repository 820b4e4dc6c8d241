use Rattle.model_laws.proofs.Later.{answered_later_refused}
use Rattle.model_laws.specs.WrongAnswers as Wrong
use Rattle.model_laws.proofs.extra_answers.denied_register_gets_no_other_answer.Goals as goal

pub returns-clause-accepted : goal.returns-clause-accepted
returns-clause-accepted c = answered_later_refused 200 Wrong.false_contact

pub returns-clause-challenged : goal.returns-clause-challenged
returns-clause-challenged c = answered_later_refused 401 Wrong.false_challenge
