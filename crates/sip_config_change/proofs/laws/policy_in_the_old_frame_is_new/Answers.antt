use Rattle.sip_config_change.proofs.SameFrames.{policy_is_new}
use Rattle.sip_config_change.proofs.laws.policy_in_the_old_frame_is_new.Goals as goal

pub returns : goal.returns
returns c = policy_is_new
