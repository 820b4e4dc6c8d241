use Rattle.model_laws.proofs.WrongWays.{elsewhere, expired}
use Rattle.model_laws.proofs.wrong_headlines.calls_go_to_live_bindings.Goals as goal

pub returns-clause-elsewhere : goal.returns-clause-elsewhere
returns-clause-elsewhere c = elsewhere

pub returns-clause-expired : goal.returns-clause-expired
returns-clause-expired c = expired
