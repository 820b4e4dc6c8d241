use Rattle.model_transactions.proofs.Apart.{apart}
use Rattle.model_transactions.proofs.branches.timers_are_apart.Goals as goal

pub returns : goal.returns
returns c = apart
