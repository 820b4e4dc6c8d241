use Rattle.std.proofs.Common.{refl}
use Rattle.std.specs.Fmt.{digits}
use Rattle.hex.specs.Hex.{encode_with}
use Rattle.sip_uri.specs.Reading.{rest_of, reading_of}
use Rattle.sip_edit_response.proofs.examples.extras.extras_example.Goals as goal

pub returns-clause-denied : goal.returns-clause-denied
unfolding digits encode_with rest_of reading_of
returns-clause-denied c = refl

pub returns-clause-extensions : goal.returns-clause-extensions
unfolding digits encode_with rest_of reading_of
returns-clause-extensions c = refl

pub returns-clause-trying : goal.returns-clause-trying
unfolding digits encode_with rest_of reading_of
returns-clause-trying c = refl

pub returns-clause-timeout : goal.returns-clause-timeout
unfolding digits encode_with rest_of reading_of
returns-clause-timeout c = refl
