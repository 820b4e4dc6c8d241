use Rattle.std.proofs.Common.{refl}
use Rattle.std.specs.Fmt.{digits}
use Rattle.hex.specs.Hex.{encode_with}
use Rattle.sip_digest.specs.NonceText.{nonce_text}
use Rattle.sip_replay_script.specs.Escaped.{byte_text, escaped}
use Rattle.sip_record_omitted.proofs.examples.texts_of_left_out.Goals as goal

pub returns-clause-count : goal.returns-clause-count
unfolding digits
returns-clause-count c = refl

pub returns-clause-datagram : goal.returns-clause-datagram
unfolding digits encode_with nonce_text byte_text escaped
returns-clause-datagram c = refl
