use Rattle.model_laws.proofs.NotAsked.{step_stays}
use Rattle.model_laws.proofs.configurations.what_stands_is_not_judged_again.Goals as goal

pub returns : goal.returns
returns c = step_stays
