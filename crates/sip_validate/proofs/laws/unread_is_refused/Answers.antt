use Rattle.sip_validate.proofs.Serving.{lacking_refused}
use Rattle.sip_validate.proofs.laws.unread_is_refused.Goals as goal

pub returns : goal.returns
returns c = record { bad = lacking_refused }
