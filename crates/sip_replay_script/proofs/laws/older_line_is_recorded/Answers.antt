use Rattle.sip_replay_script.proofs.WrittenEvents.{older_recorded}
use Rattle.sip_replay_script.proofs.laws.older_line_is_recorded.Goals as goal

pub returns : goal.returns
returns c = older_recorded
