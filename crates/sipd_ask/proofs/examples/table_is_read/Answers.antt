use Rattle.std.proofs.Common.{refl}
use Rattle.toml.proofs.OnLiterals.{toml_on_literals}
use Rattle.sipd_ask.proofs.examples.table_is_read.Goals as goal

pub returns : goal.returns
unfolding toml_on_literals
returns c = refl
