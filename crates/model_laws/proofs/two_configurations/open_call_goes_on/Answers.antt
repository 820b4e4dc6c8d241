use Rattle.std.proofs.Common.{refl}
use Rattle.std.specs.Fmt.{digits}
use Rattle.hex.specs.Hex.{encode_with}
use Rattle.sip_uri.specs.Reading.{rest_of, reading_of}
use Rattle.sip_header.specs.CoreFields.{core_in}
use Rattle.sip_digest.specs.NonceText.{nonce_text}
use Rattle.model_laws.proofs.two_configurations.open_call_goes_on.Goals as goal

pub returns-clause-again : goal.returns-clause-again
unfolding digits encode_with rest_of reading_of core_in nonce_text
returns-clause-again c = refl

pub returns-clause-phone : goal.returns-clause-phone
unfolding digits encode_with rest_of reading_of core_in nonce_text
returns-clause-phone c = refl

pub returns-clause-rings : goal.returns-clause-rings
unfolding digits encode_with rest_of reading_of core_in nonce_text
returns-clause-rings c = refl

pub returns-clause-given_up : goal.returns-clause-given_up
unfolding digits encode_with rest_of reading_of core_in nonce_text
returns-clause-given_up c = refl
