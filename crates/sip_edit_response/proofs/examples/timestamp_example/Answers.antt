use Rattle.std.proofs.Common.{refl}
use Rattle.std.specs.Fmt.{digits}
use Rattle.sip_uri.specs.Reading.{rest_of, reading_of}
use Rattle.sip_edit_response.proofs.examples.timestamp_example.Goals as goal

pub returns-clause-trying : goal.returns-clause-trying
unfolding digits rest_of reading_of
returns-clause-trying c = refl

pub returns-clause-ok : goal.returns-clause-ok
unfolding digits rest_of reading_of
returns-clause-ok c = refl
