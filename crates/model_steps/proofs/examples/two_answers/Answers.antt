use Rattle.std.proofs.Common.{refl}
use Rattle.std.specs.Fmt.{digits}
use Rattle.hex.specs.Hex.{encode_with}
use Rattle.sip_uri.specs.Reading.{rest_of, reading_of}
use Rattle.sip_header.specs.CoreFields.{core_in}
use Rattle.sip_digest.specs.NonceText.{nonce_text}
use Rattle.model_steps.proofs.examples.two_answers.Goals as goal

pub returns-clause-first : goal.returns-clause-first
unfolding digits encode_with rest_of reading_of core_in nonce_text
returns-clause-first c = refl

pub returns-clause-second : goal.returns-clause-second
unfolding digits encode_with rest_of reading_of core_in nonce_text
returns-clause-second c = refl

pub returns-clause-dialog : goal.returns-clause-dialog
unfolding digits encode_with rest_of reading_of core_in nonce_text
returns-clause-dialog c = refl
