use Rattle.std.proofs.Common.{refl}
use Rattle.std.specs.Fmt.{digits}
use Rattle.sip_uri.specs.Reading.{rest_of, reading_of}
use Rattle.sipd_ask.proofs.examples.whole_answers.Goals as goal

pub returns-clause-allowed : goal.returns-clause-allowed
unfolding digits rest_of reading_of
returns-clause-allowed c = refl

pub returns-clause-denied : goal.returns-clause-denied
unfolding digits rest_of reading_of
returns-clause-denied c = refl

pub returns-clause-none : goal.returns-clause-none
unfolding digits rest_of reading_of
returns-clause-none c = refl

pub returns-clause-challenged : goal.returns-clause-challenged
unfolding digits rest_of reading_of
returns-clause-challenged c = refl
