use Rattle.std.proofs.Common.{refl}
use Rattle.hex.specs.Hex.{encode_with}
use Rattle.sip_digest.specs.NonceText.{nonce_text}
use Rattle.sip_digest.proofs.nonce_examples.nonce_text_example.Goals as goal

pub returns : goal.returns
unfolding nonce_text encode_with
returns c = refl
