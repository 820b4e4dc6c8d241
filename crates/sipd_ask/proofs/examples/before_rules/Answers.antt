use Rattle.std.proofs.Common.{refl}
use Rattle.std.specs.Fmt.{digits}
use Rattle.sip_uri.specs.Reading.{rest_of, reading_of}
use Rattle.sipd_ask.proofs.examples.before_rules.Goals as goal

pub returns-clause-registers : goal.returns-clause-registers
unfolding digits rest_of reading_of
returns-clause-registers c = refl

pub returns-clause-capitals : goal.returns-clause-capitals
unfolding digits rest_of reading_of
returns-clause-capitals c = refl
