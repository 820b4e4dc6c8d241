use Rattle.sip_replay.proofs.Recorded.{changed_on}
use Rattle.sip_replay.proofs.recorded_laws.change_is_recorded.Goals as goal

pub returns : goal.returns
returns c = changed_on c.runs_join.ensures c.policy_in_the_old_frame_is_new.ensures
