use Rattle.sip_replay.proofs.Recorded.{resumed_on, told_on}
use Rattle.sip_replay.proofs.recorded_laws.resumed_is_recorded.Goals as goal

pub returns-clause-taken : goal.returns-clause-taken
returns-clause-taken c = resumed_on c.runs_join.ensures

pub returns-clause-told : goal.returns-clause-told
returns-clause-told c = told_on c.runs_join.ensures
