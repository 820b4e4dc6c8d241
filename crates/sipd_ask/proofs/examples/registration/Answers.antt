use Rattle.std.proofs.Common.{refl}
use Rattle.std.specs.Fmt.{digits}
use Rattle.sip_uri.specs.Reading.{rest_of, reading_of}
use Rattle.sipd_ask.proofs.examples.registration.Goals as goal

pub returns-clause-registers : goal.returns-clause-registers
unfolding digits rest_of reading_of
returns-clause-registers c = refl

pub returns-clause-lists : goal.returns-clause-lists
unfolding digits rest_of reading_of
returns-clause-lists c = refl

pub returns-clause-unproven : goal.returns-clause-unproven
unfolding digits rest_of reading_of
returns-clause-unproven c = refl

pub returns-clause-other : goal.returns-clause-other
unfolding digits rest_of reading_of
returns-clause-other c = refl
