use Rattle.std.proofs.Common.{refl}
use Rattle.std.specs.Fmt.{digits}
use Rattle.hex.specs.Hex.{encode_with}
use Rattle.sip_uri.specs.Reading.{rest_of, reading_of}
use Rattle.sip_header.specs.CoreFields.{core_in}
use Rattle.sip_digest.specs.NonceText.{nonce_text}
use Rattle.model_laws.proofs.two_configurations.denied_user_hangs_up.Goals as goal

pub returns-clause-denied : goal.returns-clause-denied
unfolding digits encode_with rest_of reading_of core_in nonce_text
returns-clause-denied c = refl

pub returns-clause-forwarded : goal.returns-clause-forwarded
unfolding digits encode_with rest_of reading_of core_in nonce_text
returns-clause-forwarded c = refl

pub returns-clause-ended : goal.returns-clause-ended
unfolding digits encode_with rest_of reading_of core_in nonce_text
returns-clause-ended c = refl
