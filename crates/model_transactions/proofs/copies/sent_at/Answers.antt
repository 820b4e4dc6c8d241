use Rattle.std.proofs.Common.{refl}
use Rattle.model_transactions.proofs.Sendings.{invite_again, invite_bound, other_again, fourth, steady_again, other_bound}
use Rattle.model_transactions.proofs.copies.sent_at.Goals as goal

pub returns-clause-first : goal.returns-clause-first
returns-clause-first c = λ now. record { due = refl; wait = refl }

pub returns-clause-invite : goal.returns-clause-invite
returns-clause-invite c = invite_again

pub returns-clause-invite_bound : goal.returns-clause-invite_bound
returns-clause-invite_bound c = invite_bound

pub returns-clause-other : goal.returns-clause-other
returns-clause-other c = other_again

pub returns-clause-fourth : goal.returns-clause-fourth
returns-clause-fourth c = fourth

pub returns-clause-further : goal.returns-clause-further
returns-clause-further c = steady_again

pub returns-clause-other_bound : goal.returns-clause-other_bound
returns-clause-other_bound c = other_bound
