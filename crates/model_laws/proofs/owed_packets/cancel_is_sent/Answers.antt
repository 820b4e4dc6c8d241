use Rattle.model_laws.proofs.Withheld.{withheld_refused}
use Rattle.model_laws.proofs.owed_packets.cancel_is_sent.Goals as goal

pub returns : goal.returns
returns c = withheld_refused
