use Rattle.sip_engine_request.proofs.CountedStates.{changed_same, left_same}
use Rattle.sip_engine_request.proofs.open_laws.counted_states_are_same.Goals as goal

pub returns-clause-left : goal.returns-clause-left
returns-clause-left c = left_same

pub returns-clause-changed : goal.returns-clause-changed
returns-clause-changed c = changed_same
