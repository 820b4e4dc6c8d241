use Rattle.std.proofs.Common.{refl}
use Rattle.std.specs.Fmt.{digits}
use Rattle.hex.specs.Hex.{encode_with}
use Rattle.sip_uri.specs.Reading.{rest_of, reading_of}
use Rattle.sip_header.specs.CoreFields.{core_in}
use Rattle.sip_digest.specs.NonceText.{nonce_text}
use Rattle.model_laws.proofs.two_configurations.moved_host_is_not_in_the_dialog.Goals as goal

pub returns-clause-stays : goal.returns-clause-stays
unfolding digits encode_with rest_of reading_of core_in nonce_text
returns-clause-stays c = refl

pub returns-clause-moved : goal.returns-clause-moved
unfolding digits encode_with rest_of reading_of core_in nonce_text
returns-clause-moved c = refl
