use Rattle.std.proofs.Common.{refl}
use Rattle.std.specs.Fmt.{digits}
use Rattle.hex.specs.Hex.{encode_with}
use Rattle.sip_uri.specs.Reading.{rest_of, reading_of}
use Rattle.sip_edit.proofs.onward_examples.branch_example.Goals as goal

pub returns : goal.returns
unfolding digits encode_with rest_of reading_of
returns c = refl
