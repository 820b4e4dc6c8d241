use Rattle.std.proofs.Common.{refl}
use Rattle.std.specs.Fmt.{digits}
use Rattle.sipd_page_sections.proofs.examples.picture_example.Goals as goal

pub returns-clause-seconds : goal.returns-clause-seconds
unfolding digits
returns-clause-seconds c = refl

pub returns-clause-live : goal.returns-clause-live
unfolding digits
returns-clause-live c = refl

pub returns-clause-line : goal.returns-clause-line
unfolding digits
returns-clause-line c = refl
