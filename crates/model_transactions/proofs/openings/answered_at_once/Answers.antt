use Rattle.model_transactions.proofs.Opened.{closing_within}
use Rattle.model_transactions.proofs.openings.answered_at_once.Goals as goal

pub returns : goal.returns
returns c = closing_within
