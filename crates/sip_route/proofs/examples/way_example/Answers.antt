use Rattle.std.proofs.Common.{refl}
use Rattle.std.specs.Fmt.{digits}
use Rattle.sip_uri.specs.Reading.{rest_of, reading_of}
use Rattle.sip_route.proofs.examples.way_example.Goals as goal

pub returns-clause-behind : goal.returns-clause-behind
unfolding digits rest_of reading_of
returns-clause-behind c = refl
