use Rattle.std.proofs.Common.{refl}
use Rattle.toml.proofs.OnLiterals.{toml_on_literals}
use Rattle.sip_config.proofs.examples.user_refusals.Goals as goal

pub returns : goal.returns
unfolding toml_on_literals
returns c = record { none = refl; empty = refl; plain_table = refl; twice = refl; name_first = refl }
