use Rattle.sip_replay_script.proofs.WrittenEvents.{written_says}
use Rattle.sip_replay_script.proofs.laws.written_event_is_read.Goals as goal

pub returns : goal.returns
returns c = written_says
