use Rattle.std.proofs.Common.{refl}
use Rattle.std.specs.Fmt.{digits}
use Rattle.hex.specs.Hex.{encode_with}
use Rattle.sip_uri.specs.Reading.{rest_of, reading_of}
use Rattle.sip_header.specs.CoreFields.{core_in}
use Rattle.sip_digest.specs.NonceText.{nonce_text}
use Rattle.sip_state.proofs.dialogs.callers_addresses.Goals as goal

pub returns-clause-source : goal.returns-clause-source
unfolding digits encode_with rest_of reading_of core_in nonce_text
returns-clause-source c = refl

pub returns-clause-contact : goal.returns-clause-contact
unfolding digits encode_with rest_of reading_of core_in nonce_text
returns-clause-contact c = refl

pub returns-clause-other : goal.returns-clause-other
unfolding digits encode_with rest_of reading_of core_in nonce_text
returns-clause-other c = refl
