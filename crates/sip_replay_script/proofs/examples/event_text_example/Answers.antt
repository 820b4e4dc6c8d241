use Rattle.std.proofs.Common.{refl}
use Rattle.std.specs.Fmt.{digits}
use Rattle.hex.specs.Hex.{encode_with}
use Rattle.sip_digest.specs.NonceText.{nonce_text}
use Rattle.sip_replay_script.specs.Escaped.{byte_text, escaped}
use Rattle.sip_replay_script.proofs.examples.event_text_example.Goals as goal

pub returns-clause-bytes : goal.returns-clause-bytes
unfolding digits encode_with nonce_text byte_text escaped
returns-clause-bytes c = refl

pub returns-clause-none : goal.returns-clause-none
unfolding digits encode_with nonce_text
returns-clause-none c = refl

pub returns-clause-time : goal.returns-clause-time
unfolding digits
returns-clause-time c = refl

pub returns-clause-failed : goal.returns-clause-failed
unfolding digits
returns-clause-failed c = refl
