use Rattle.sip_engine.proofs.Judged.{dropped_or_on}
use Rattle.sip_engine.proofs.delivery_laws.acks_are_dropped_or_go_on.Goals as goal

pub returns : goal.returns
returns c = dropped_or_on
