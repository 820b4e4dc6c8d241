use Rattle.std.proofs.Common.{refl}
use Rattle.std.specs.Fmt.{digits}
use Rattle.hex.specs.Hex.{encode_with}
use Rattle.sip_uri.specs.Reading.{rest_of, reading_of}
use Rattle.sip_header.specs.CoreFields.{core_in}
use Rattle.sip_digest.specs.NonceText.{nonce_text}
use Rattle.model_laws.proofs.two_configurations.window_opens_by_the_new_offset.Goals as goal

pub returns-clause-before : goal.returns-clause-before
unfolding digits encode_with rest_of reading_of core_in nonce_text
returns-clause-before c = refl

pub returns-clause-open : goal.returns-clause-open
unfolding digits encode_with rest_of reading_of core_in nonce_text
returns-clause-open c = refl
