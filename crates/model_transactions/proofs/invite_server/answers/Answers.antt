use Rattle.model_transactions.proofs.InviteServerSteps.{first_answer, further_answer}
use Rattle.model_transactions.proofs.invite_server.answers.Goals as goal

pub returns-clause-first : goal.returns-clause-first
returns-clause-first c = first_answer

pub returns-clause-further : goal.returns-clause-further
returns-clause-further c = further_answer
