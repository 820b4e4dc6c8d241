use Rattle.std.proofs.Common.{refl}
use Rattle.std.specs.Fmt.{digits}
use Rattle.hex.specs.Hex.{encode_with}
use Rattle.sip_uri.specs.Reading.{rest_of, reading_of}
use Rattle.sip_header.specs.CoreFields.{core_in}
use Rattle.sip_digest.specs.NonceText.{nonce_text}
use Rattle.sip_state.proofs.dialogs.target_refresh.Goals as goal

pub returns-clause-before : goal.returns-clause-before
unfolding digits encode_with rest_of reading_of core_in nonce_text
returns-clause-before c = refl

pub returns-clause-after : goal.returns-clause-after
unfolding digits encode_with rest_of reading_of core_in nonce_text
returns-clause-after c = refl
