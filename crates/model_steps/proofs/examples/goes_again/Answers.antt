use Rattle.std.proofs.Common.{refl}
use Rattle.std.specs.Fmt.{digits}
use Rattle.hex.specs.Hex.{encode_with}
use Rattle.sip_uri.specs.Reading.{rest_of, reading_of}
use Rattle.sip_header.specs.CoreFields.{core_in}
use Rattle.sip_digest.specs.NonceText.{nonce_text}
use Rattle.model_steps.proofs.examples.goes_again.Goals as goal

pub returns-clause-copied : goal.returns-clause-copied
unfolding digits encode_with rest_of reading_of core_in nonce_text
returns-clause-copied c = refl

pub returns-clause-no_original : goal.returns-clause-no_original
unfolding digits encode_with rest_of reading_of core_in nonce_text
returns-clause-no_original c = refl

pub returns-clause-unchanged : goal.returns-clause-unchanged
unfolding digits encode_with rest_of reading_of core_in nonce_text
returns-clause-unchanged c = refl

pub returns-clause-tried : goal.returns-clause-tried
unfolding digits encode_with rest_of reading_of core_in nonce_text
returns-clause-tried c = refl

pub returns-clause-acknowledged : goal.returns-clause-acknowledged
unfolding digits encode_with rest_of reading_of core_in nonce_text
returns-clause-acknowledged c = refl

pub returns-clause-then_copied : goal.returns-clause-then_copied
unfolding digits encode_with rest_of reading_of core_in nonce_text
returns-clause-then_copied c = refl

pub returns-clause-accepted : goal.returns-clause-accepted
unfolding digits encode_with rest_of reading_of core_in nonce_text
returns-clause-accepted c = refl

pub returns-clause-busy : goal.returns-clause-busy
unfolding digits encode_with rest_of reading_of core_in nonce_text
returns-clause-busy c = refl

pub returns-clause-success_again : goal.returns-clause-success_again
unfolding digits encode_with rest_of reading_of core_in nonce_text
returns-clause-success_again c = refl

pub returns-clause-after_success : goal.returns-clause-after_success
unfolding digits encode_with rest_of reading_of core_in nonce_text
returns-clause-after_success c = refl
