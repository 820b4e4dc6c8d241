use Rattle.model_laws.proofs.Copying.{other_refused}
use Rattle.model_laws.proofs.early_copies.copy_says_what_went.Goals as goal

pub returns : goal.returns
returns c = other_refused
