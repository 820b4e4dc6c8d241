use Rattle.std.proofs.Common.{refl}
use Rattle.std.specs.Fmt.{digits}
use Rattle.test_definitions.proofs.edits.sources.Goals as goal

pub returns-clause-other_host : goal.returns-clause-other_host
unfolding digits
returns-clause-other_host c = refl

pub returns-clause-own_host : goal.returns-clause-own_host
unfolding digits
returns-clause-own_host c = refl

pub returns-clause-asked : goal.returns-clause-asked
unfolding digits
returns-clause-asked c = refl

pub returns-clause-with_value : goal.returns-clause-with_value
unfolding digits
returns-clause-with_value c = refl
