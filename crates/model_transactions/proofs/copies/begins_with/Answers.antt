use Rattle.model_transactions.proofs.CopiesLeft.{begins_invite, begins_other}
use Rattle.model_transactions.proofs.copies.begins_with.Goals as goal

pub returns-clause-invite : goal.returns-clause-invite
returns-clause-invite c = begins_invite

pub returns-clause-other : goal.returns-clause-other
returns-clause-other c = begins_other

pub returns-clause-answer : goal.returns-clause-answer
returns-clause-answer c = λ now a refused. rw refused (begins_other now)
