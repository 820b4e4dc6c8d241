use Rattle.std.proofs.Common.{refl}
use Rattle.std.specs.Fmt.{digits}
use Rattle.hex.specs.Hex.{encode_with}
use Rattle.sip_uri.specs.Reading.{rest_of, reading_of}
use Rattle.sip_edit.proofs.onward_examples.onward_fields_example.Goals as goal

pub returns-clause-uri : goal.returns-clause-uri
unfolding digits encode_with rest_of reading_of
returns-clause-uri c = refl

pub returns-clause-request : goal.returns-clause-request
unfolding digits encode_with rest_of reading_of
returns-clause-request c = refl

pub returns-clause-back : goal.returns-clause-back
unfolding digits encode_with rest_of reading_of
returns-clause-back c = refl

pub returns-clause-hops : goal.returns-clause-hops
unfolding digits encode_with rest_of reading_of
returns-clause-hops c = refl

pub returns-clause-kept : goal.returns-clause-kept
unfolding digits encode_with rest_of reading_of
returns-clause-kept c = refl
