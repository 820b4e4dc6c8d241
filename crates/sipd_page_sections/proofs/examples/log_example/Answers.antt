use Rattle.std.proofs.Common.{refl}
use Rattle.std.specs.Fmt.{digits}
use Rattle.sipd_page_sections.proofs.examples.log_example.Goals as goal

pub returns-clause-same : goal.returns-clause-same
unfolding digits
returns-clause-same c = refl

pub returns-clause-other : goal.returns-clause-other
unfolding digits
returns-clause-other c = refl

pub returns-clause-short : goal.returns-clause-short
unfolding digits
returns-clause-short c = refl
