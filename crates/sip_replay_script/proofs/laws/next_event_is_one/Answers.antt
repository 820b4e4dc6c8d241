use Rattle.sip_replay_script.proofs.OneReading.{same_event, says_something}
use Rattle.sip_replay_script.proofs.laws.next_event_is_one.Goals as goal

pub returns-clause-one : goal.returns-clause-one
returns-clause-one c = same_event

pub returns-clause-something : goal.returns-clause-something
returns-clause-something c = says_something
