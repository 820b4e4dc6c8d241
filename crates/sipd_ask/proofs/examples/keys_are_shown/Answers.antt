use Rattle.std.proofs.Common.{refl}
use Rattle.std.specs.Fmt.{digits}
use Rattle.sipd_ask.specs.Show.{key_column}
use Rattle.sipd_ask.proofs.examples.keys_are_shown.Goals as goal

pub returns-clause-key : goal.returns-clause-key
unfolding key_column
returns-clause-key c = refl

pub returns-clause-longest : goal.returns-clause-longest
unfolding key_column
returns-clause-longest c = refl

pub returns-clause-rule : goal.returns-clause-rule
unfolding digits key_column
returns-clause-rule c = refl

pub returns-clause-longer : goal.returns-clause-longer
unfolding digits key_column
returns-clause-longer c = refl
