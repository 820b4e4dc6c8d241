use Rattle.std.proofs.Common.{refl}
use Rattle.std.specs.Fmt.{digits}
use Rattle.hex.specs.Hex.{encode_with}
use Rattle.sip_uri.specs.Reading.{rest_of, reading_of}
use Rattle.sip_header.specs.CoreFields.{core_in}
use Rattle.sip_digest.specs.NonceText.{nonce_text}
use Rattle.sip_state.proofs.dialogs.early_dialogs.Goals as goal

pub returns-clause-known : goal.returns-clause-known
unfolding digits encode_with rest_of reading_of core_in nonce_text
returns-clause-known c = refl

pub returns-clause-confirmed : goal.returns-clause-confirmed
unfolding digits encode_with rest_of reading_of core_in nonce_text
returns-clause-confirmed c = refl
