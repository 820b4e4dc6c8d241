use Rattle.std.proofs.Common.{refl}
use Rattle.std.specs.Fmt.{digits}
use Rattle.sipd_ask.specs.Show.{key_column, row_line}
use Rattle.sipd_ask.proofs.examples.sample_is_shown.Goals as goal

pub returns : goal.returns
unfolding digits key_column row_line
returns c = refl
