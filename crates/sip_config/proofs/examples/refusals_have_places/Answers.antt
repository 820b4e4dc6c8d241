use Rattle.std.proofs.Common.{refl}
use Rattle.toml.proofs.OnLiterals.{toml_on_literals}
use Rattle.sip_config.proofs.examples.refusals_have_places.Goals as goal

pub returns : goal.returns
unfolding toml_on_literals
returns c = record { none = refl; twice = refl; hop = refl; unknown = refl }
