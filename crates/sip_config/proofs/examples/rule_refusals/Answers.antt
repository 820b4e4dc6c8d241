use Rattle.std.proofs.Common.{refl}
use Rattle.toml.proofs.OnLiterals.{toml_on_literals}
use Rattle.sip_config.proofs.examples.rule_refusals.Goals as goal

pub returns : goal.returns
unfolding toml_on_literals
returns c = record { number = refl; hop = refl; group = refl; number_first = refl; hop_first = refl; key_first = refl }
