use Rattle.sip_replay.proofs.Recorded.{one_in_force, one_record}
use Rattle.sip_replay.proofs.recorded_laws.records_are_one.Goals as goal

pub returns-clause-steps : goal.returns-clause-steps
returns-clause-steps c = one_record c.runs_are_one.ensures.periods c.record_says_one_list.ensures.whole

pub returns-clause-in_force : goal.returns-clause-in_force
returns-clause-in_force c = one_in_force c.record_says_one_list.ensures.whole
