use Rattle.sip_replay.proofs.OfEvents.{run_over}
use Rattle.sip_replay.proofs.scripts.run_is_recorded.Goals as goal

pub returns : goal.returns
returns c = run_over
