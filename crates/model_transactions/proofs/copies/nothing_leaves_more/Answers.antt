use Rattle.model_transactions.proofs.CopiesLeft.{heard_fewer, answer_begins, answer_goes_on, answer_acked, invite_silent, other_silent}
use Rattle.model_transactions.proofs.copies.nothing_leaves_more.Goals as goal

pub returns-clause-invite : goal.returns-clause-invite
returns-clause-invite c = invite_silent

pub returns-clause-heard : goal.returns-clause-heard
returns-clause-heard c = heard_fewer

pub returns-clause-other : goal.returns-clause-other
returns-clause-other c = other_silent

pub returns-clause-answer : goal.returns-clause-answer
returns-clause-answer c = answer_begins

pub returns-clause-further : goal.returns-clause-further
returns-clause-further c = answer_goes_on

pub returns-clause-ack : goal.returns-clause-ack
returns-clause-ack c = answer_acked
