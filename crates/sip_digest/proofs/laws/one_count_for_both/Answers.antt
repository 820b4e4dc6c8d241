use Rattle.sip_digest.proofs.Replays.{counts_once}
use Rattle.sip_digest.proofs.laws.one_count_for_both.Goals as goal

pub returns : goal.returns
returns c = counts_once
