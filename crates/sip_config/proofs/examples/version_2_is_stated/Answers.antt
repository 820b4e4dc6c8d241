use Rattle.std.proofs.Common.{refl}
use Rattle.toml.proofs.OnLiterals.{toml_on_literals}
use Rattle.sip_config.proofs.examples.version_2_is_stated.Goals as goal

pub returns : goal.returns
unfolding toml_on_literals
returns c = refl
