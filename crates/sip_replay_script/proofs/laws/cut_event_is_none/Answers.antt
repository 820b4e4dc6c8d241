use Rattle.sip_replay_script.proofs.CutEvents.{cut_event}
use Rattle.sip_replay_script.proofs.laws.cut_event_is_none.Goals as goal

pub returns : goal.returns
returns c = cut_event
