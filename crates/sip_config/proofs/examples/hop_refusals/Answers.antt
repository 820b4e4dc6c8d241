use Rattle.std.proofs.Common.{refl}
use Rattle.toml.proofs.OnLiterals.{toml_on_literals}
use Rattle.sip_config.proofs.examples.hop_refusals.Goals as goal

pub returns : goal.returns
unfolding toml_on_literals
returns c = record { missing = refl; bad = refl }
