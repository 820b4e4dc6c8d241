use Rattle.std.proofs.Common.{refl}
use Rattle.std.specs.Fmt.{digits}
use Rattle.hex.specs.Hex.{encode_with}
use Rattle.sip_uri.specs.Reading.{rest_of, reading_of}
use Rattle.sip_header.specs.CoreFields.{core_in}
use Rattle.sip_digest.specs.NonceText.{nonce_text}
use Rattle.sip_state.proofs.dialogs.renewed_dialog.Goals as goal

pub returns-clause-last : goal.returns-clause-last
unfolding digits encode_with rest_of reading_of core_in nonce_text
returns-clause-last c = refl

pub returns-clause-renewed : goal.returns-clause-renewed
unfolding digits encode_with rest_of reading_of core_in nonce_text
returns-clause-renewed c = refl
