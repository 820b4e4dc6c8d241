use Rattle.sipd_reload.proofs.Offers.{other_seen, other_offered}
use Rattle.sipd_reload.proofs.laws.other_bytes_are_offered.Goals as goal

pub returns-clause-seen : goal.returns-clause-seen
returns-clause-seen c = other_seen

pub returns-clause-offered : goal.returns-clause-offered
returns-clause-offered c = other_offered
