use Rattle.sip_model.proofs.Events.{change_event}
use Rattle.sip_model.proofs.Answers.{adds_successes, answers_once}
use Rattle.sip_model.proofs.OneAnswer.{chain_one_answer}
use Rattle.sip_model.proofs.order.one_final_answer.Goals as goal

pub returns-clause-whole : goal.returns-clause-whole
returns-clause-whole c = chain_one_answer

pub returns-clause-later : goal.returns-clause-later
returns-clause-later c = λ server now r change is answered. adds_successes server now r change (change_event server now r change is) answered

pub returns-clause-first : goal.returns-clause-first
returns-clause-first c = λ server now r change is owes. answers_once server now r change (change_event server now r change is) owes
