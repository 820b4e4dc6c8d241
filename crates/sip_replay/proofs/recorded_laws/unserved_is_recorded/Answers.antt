use Rattle.sip_replay.proofs.Cut.{unserved_on}
use Rattle.sip_replay.proofs.recorded_laws.unserved_is_recorded.Goals as goal

pub returns : goal.returns
returns c = unserved_on c.runs_join.ensures
