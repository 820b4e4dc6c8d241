use Rattle.model_laws.proofs.Withheld.{unacknowledged_refused}
use Rattle.model_laws.proofs.owed_packets.busy_is_acknowledged.Goals as goal

pub returns : goal.returns
returns c = unacknowledged_refused
