use Rattle.model_transactions.proofs.OtherClientSteps.{hears_provisional, hears_first, hears_further}
use Rattle.model_transactions.proofs.other_client.hears.Goals as goal

pub returns-clause-provisional : goal.returns-clause-provisional
returns-clause-provisional c = hears_provisional

pub returns-clause-first : goal.returns-clause-first
returns-clause-first c = hears_first

pub returns-clause-further : goal.returns-clause-further
returns-clause-further c = hears_further
