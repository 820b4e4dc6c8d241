use Rattle.std.proofs.Common.{refl}
use Rattle.std.specs.Fmt.{digits}
use Rattle.sip_uri.specs.Reading.{rest_of, reading_of}
use Rattle.test_definitions.proofs.edits.record_routes.Goals as goal

pub returns-clause-recorded : goal.returns-clause-recorded
unfolding digits rest_of reading_of
returns-clause-recorded c = refl

pub returns-clause-not_recorded : goal.returns-clause-not_recorded
unfolding digits rest_of reading_of
returns-clause-not_recorded c = refl
