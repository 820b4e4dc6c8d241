use Rattle.std.proofs.Common.{refl}
use Rattle.std.specs.Fmt.{digits}
use Rattle.hex.specs.Hex.{encode_with}
use Rattle.sip_uri.specs.Reading.{rest_of, reading_of}
use Rattle.sip_header.specs.CoreFields.{core_in}
use Rattle.sip_digest.specs.NonceText.{nonce_text}
use Rattle.model_laws.proofs.two_configurations.gone_user_is_not_called.Goals as goal

pub returns-clause-not_found : goal.returns-clause-not_found
unfolding digits encode_with rest_of reading_of core_in nonce_text
returns-clause-not_found c = refl

pub returns-clause-let_through : goal.returns-clause-let_through
unfolding digits encode_with rest_of reading_of core_in nonce_text
returns-clause-let_through c = refl

pub returns-clause-bound : goal.returns-clause-bound
unfolding digits encode_with rest_of reading_of core_in nonce_text
returns-clause-bound c = refl

pub returns-clause-returned : goal.returns-clause-returned
unfolding digits encode_with rest_of reading_of core_in nonce_text
returns-clause-returned c = refl
