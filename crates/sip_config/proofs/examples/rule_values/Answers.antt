use Rattle.std.proofs.Common.{refl}
use Rattle.toml.proofs.OnLiterals.{toml_on_literals}
use Rattle.sip_config.proofs.examples.rule_values.Goals as goal

pub returns : goal.returns
unfolding toml_on_literals
returns c = record { via = refl; user = refl; ack = refl }
