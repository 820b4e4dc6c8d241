use Rattle.sip_config_change.proofs.SameFrames.{frame_same, no_key_of_same}
use Rattle.sip_config_change.proofs.laws.frame_is_place_and_realm.Goals as goal

pub returns : goal.returns
returns c = λ old new. (frame_same old new, no_key_of_same old new)
