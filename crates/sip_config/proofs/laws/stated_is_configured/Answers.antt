use Rattle.sip_config.proofs.Configured.{configured}
use Rattle.sip_config.proofs.laws.stated_is_configured.Goals as goal

pub returns : goal.returns
returns c = configured
