use Rattle.sipd_changes.proofs.Taking.{taken}
use Rattle.sipd_changes.proofs.laws.taken_where_the_frame_is_kept.Goals as goal

pub returns : goal.returns
returns c = taken
