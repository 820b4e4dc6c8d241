use Rattle.std.proofs.Common.{refl}
use Rattle.std.specs.Fmt.{digits}
use Rattle.hex.specs.Hex.{encode_with}
use Rattle.sip_uri.specs.Reading.{rest_of, reading_of}
use Rattle.sip_header.specs.CoreFields.{core_in}
use Rattle.sip_digest.specs.NonceText.{nonce_text}
use Rattle.model_laws.proofs.two_configurations.sha256_is_offered_from_now_on.Goals as goal

pub returns-clause-by_md5 : goal.returns-clause-by_md5
unfolding digits encode_with rest_of reading_of core_in nonce_text
returns-clause-by_md5 c = refl

pub returns-clause-by_both : goal.returns-clause-by_both
unfolding digits encode_with rest_of reading_of core_in nonce_text
returns-clause-by_both c = refl
