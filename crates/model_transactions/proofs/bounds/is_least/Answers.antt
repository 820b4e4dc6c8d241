use Rattle.model_transactions.proofs.Near.{no_less}
use Rattle.model_transactions.proofs.bounds.is_least.Goals as goal

pub returns : goal.returns
returns c = no_less
