use Rattle.model_laws.proofs.Folding.{bindings_keep, nonces_keep}
use Rattle.model_laws.proofs.configurations.histories_keep_their_configurations.Goals as goal

pub returns-clause-bindings : goal.returns-clause-bindings
returns-clause-bindings c = bindings_keep

pub returns-clause-nonces : goal.returns-clause-nonces
returns-clause-nonces c = nonces_keep
