use Rattle.std.proofs.Common.{refl}
use Rattle.std.specs.Fmt.{digits}
use Rattle.hex.specs.Hex.{encode_with}
use Rattle.sip_uri.specs.Reading.{rest_of, reading_of}
use Rattle.sip_header.specs.CoreFields.{core_in}
use Rattle.sip_digest.specs.NonceText.{nonce_text}
use Rattle.sip_model.proofs.tie_examples.order_is_heard.Goals as goal

pub returns-clause-tied : goal.returns-clause-tied
unfolding digits encode_with rest_of reading_of core_in nonce_text
returns-clause-tied c = refl

pub returns-clause-cancelled_first : goal.returns-clause-cancelled_first
unfolding digits encode_with rest_of reading_of core_in nonce_text
returns-clause-cancelled_first c = refl

pub returns-clause-unheard_first : goal.returns-clause-unheard_first
unfolding digits encode_with rest_of reading_of core_in nonce_text
returns-clause-unheard_first c = refl
