use Rattle.model_laws.proofs.Withheld.{unanswered_refused}
use Rattle.model_laws.proofs.owed_packets.copy_is_answered.Goals as goal

pub returns : goal.returns
returns c = unanswered_refused
