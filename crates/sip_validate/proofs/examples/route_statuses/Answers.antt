use Rattle.std.proofs.Common.{refl}
use Rattle.std.specs.Fmt.{digits}
use Rattle.sip_uri.specs.Reading.{rest_of, reading_of}
use Rattle.sip_header.specs.CoreFields.{core_in}
use Rattle.sip_validate.proofs.examples.route_statuses.Goals as goal

pub returns-clause-other : goal.returns-clause-other
unfolding digits rest_of reading_of core_in
returns-clause-other c = refl
