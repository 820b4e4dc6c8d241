use Rattle.sip_config_change.proofs.SameFrames.{key_differs, other_frame}
use Rattle.sip_config_change.proofs.laws.given_key_differs.Goals as goal

pub returns-clause-differs : goal.returns-clause-differs
returns-clause-differs c = key_differs

pub returns-clause-other_frame : goal.returns-clause-other_frame
returns-clause-other_frame c = other_frame
