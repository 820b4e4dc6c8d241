use Rattle.std.proofs.Common.{refl}
use Rattle.toml.proofs.OnLiterals.{toml_on_literals}
use Rattle.sip_config.proofs.examples.window_refusals.Goals as goal

pub returns : goal.returns
unfolding toml_on_literals
returns c = record { alone = refl; equal = refl; too_late = refl; version_1 = refl; offset = refl }
