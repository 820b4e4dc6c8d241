use Rattle.std.proofs.Common.{refl}
use Rattle.toml.proofs.OnLiterals.{toml_on_literals}
use Rattle.sip_config.proofs.examples.head_refusals.Goals as goal

pub returns : goal.returns
unfolding toml_on_literals
returns c = record { not_toml = refl; no_realm = refl; port_0 = refl; many = refl }
