use Rattle.model_laws.proofs.Copying.{early_refused}
use Rattle.model_laws.proofs.early_copies.copy_waits.Goals as goal

pub returns : goal.returns
returns c = early_refused
