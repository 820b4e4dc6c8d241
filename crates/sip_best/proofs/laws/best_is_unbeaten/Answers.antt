use Rattle.sip_best.proofs.Choices.{chosen_is}
use Rattle.sip_best.proofs.laws.best_is_unbeaten.Goals as goal

pub returns : goal.returns
returns c = chosen_is
