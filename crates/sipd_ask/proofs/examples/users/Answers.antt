use Rattle.std.proofs.Common.{refl}
use Rattle.std.specs.Fmt.{digits}
use Rattle.sip_uri.specs.Reading.{rest_of, reading_of}
use Rattle.sipd_ask.proofs.examples.users.Goals as goal

pub returns-clause-gateway : goal.returns-clause-gateway
unfolding digits rest_of reading_of
returns-clause-gateway c = refl

pub returns-clause-nobody : goal.returns-clause-nobody
unfolding digits rest_of reading_of
returns-clause-nobody c = refl

pub returns-clause-uri : goal.returns-clause-uri
unfolding digits rest_of reading_of
returns-clause-uri c = refl
