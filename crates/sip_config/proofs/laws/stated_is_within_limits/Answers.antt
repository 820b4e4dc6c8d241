use Rattle.sip_config.proofs.Within.{within}
use Rattle.sip_config.proofs.laws.stated_is_within_limits.Goals as goal

pub returns : goal.returns
returns c = within
