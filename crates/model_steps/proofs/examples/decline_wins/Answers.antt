use Rattle.std.proofs.Common.{refl}
use Rattle.std.specs.Fmt.{digits}
use Rattle.hex.specs.Hex.{encode_with}
use Rattle.sip_uri.specs.Reading.{rest_of, reading_of}
use Rattle.sip_header.specs.CoreFields.{core_in}
use Rattle.sip_digest.specs.NonceText.{nonce_text}
use Rattle.model_steps.proofs.examples.decline_wins.Goals as goal

pub returns-clause-busy : goal.returns-clause-busy
unfolding digits encode_with rest_of reading_of core_in nonce_text
returns-clause-busy c = refl

pub returns-clause-declines : goal.returns-clause-declines
unfolding digits encode_with rest_of reading_of core_in nonce_text
returns-clause-declines c = refl

pub returns-clause-rings : goal.returns-clause-rings
unfolding digits encode_with rest_of reading_of core_in nonce_text
returns-clause-rings c = refl

pub returns-clause-ends : goal.returns-clause-ends
unfolding digits encode_with rest_of reading_of core_in nonce_text
returns-clause-ends c = refl
