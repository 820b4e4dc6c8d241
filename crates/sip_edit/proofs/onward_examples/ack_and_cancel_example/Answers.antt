use Rattle.std.proofs.Common.{refl}
use Rattle.std.specs.Fmt.{digits}
use Rattle.hex.specs.Hex.{encode_with}
use Rattle.sip_uri.specs.Reading.{rest_of, reading_of}
use Rattle.sip_edit.proofs.onward_examples.ack_and_cancel_example.Goals as goal

pub returns-clause-ack : goal.returns-clause-ack
unfolding digits encode_with rest_of reading_of
returns-clause-ack c = refl

pub returns-clause-cancel : goal.returns-clause-cancel
unfolding digits encode_with rest_of reading_of
returns-clause-cancel c = refl
