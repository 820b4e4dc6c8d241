use Rattle.model_transactions.proofs.OtherClientSteps.{fires_unheard, fires_heard}
use Rattle.model_transactions.proofs.other_client.sends_again.Goals as goal

pub returns-clause-unheard : goal.returns-clause-unheard
returns-clause-unheard c = fires_unheard

pub returns-clause-heard : goal.returns-clause-heard
returns-clause-heard c = fires_heard
