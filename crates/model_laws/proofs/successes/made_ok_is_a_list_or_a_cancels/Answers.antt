use Rattle.model_laws.proofs.Granting.{granted}
use Rattle.model_laws.proofs.successes.made_ok_is_a_list_or_a_cancels.Goals as goal

pub returns : goal.returns
returns c = granted c.numbers_differ.ensures
