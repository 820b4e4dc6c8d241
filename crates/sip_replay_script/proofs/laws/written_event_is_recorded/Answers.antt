use Rattle.sip_replay_script.proofs.RecordTexts.{record_says}
use Rattle.sip_replay_script.proofs.WrittenEvents.{recorded_says, written_recorded}
use Rattle.sip_replay_script.proofs.laws.written_event_is_recorded.Goals as goal

pub returns-clause-written : goal.returns-clause-written
returns-clause-written c = written_recorded

pub returns-clause-one : goal.returns-clause-one
returns-clause-one c = recorded_says

pub returns-clause-all : goal.returns-clause-all
returns-clause-all c = record_says
