use Rattle.model_laws.proofs.Withheld.{ringing_refused}
use Rattle.model_laws.proofs.owed_packets.ringing_is_told.Goals as goal

pub returns : goal.returns
returns c = ringing_refused
