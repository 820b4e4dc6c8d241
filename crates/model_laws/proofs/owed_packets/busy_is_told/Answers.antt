use Rattle.model_laws.proofs.Withheld.{busy_refused}
use Rattle.model_laws.proofs.owed_packets.busy_is_told.Goals as goal

pub returns : goal.returns
returns c = busy_refused
