use Rattle.std.proofs.Common.{refl}
use Rattle.hex.specs.Hex.{decode_pairs, encode_with}
use Rattle.sip_digest.specs.NonceText.{nonce_text}
use Rattle.sip_replay_script.proofs.examples.datagram_line_example.Goals as goal

pub returns-clause-text : goal.returns-clause-text
unfolding encode_with nonce_text
returns-clause-text c = refl

pub returns-clause-hex : goal.returns-clause-hex
unfolding decode_pairs encode_with nonce_text
returns-clause-hex c = refl
