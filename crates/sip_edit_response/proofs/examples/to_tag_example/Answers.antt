use Rattle.std.proofs.Common.{refl}
use Rattle.std.specs.Fmt.{digits}
use Rattle.hex.specs.Hex.{encode_with}
use Rattle.sip_edit_response.proofs.examples.to_tag_example.Goals as goal

pub returns : goal.returns
unfolding digits encode_with
returns c = refl
