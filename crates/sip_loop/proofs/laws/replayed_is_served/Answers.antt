use Rattle.sip_loop.proofs.Replaying.{served_replays, unserved_replays}
use Rattle.sip_loop.proofs.laws.replayed_is_served.Goals as goal

pub returns-clause-served : goal.returns-clause-served
returns-clause-served c = served_replays

pub returns-clause-unserved : goal.returns-clause-unserved
returns-clause-unserved c = unserved_replays
