use Rattle.std.proofs.Common.{refl}
use Rattle.toml.proofs.OnLiterals.{toml_on_literals}
use Rattle.sip_config.proofs.examples.lines_in_order.Goals as goal

pub returns : goal.returns
unfolding toml_on_literals
returns c = record { realm = refl; no_realm = refl; many = refl }
