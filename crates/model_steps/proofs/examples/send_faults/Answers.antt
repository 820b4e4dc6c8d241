use Rattle.std.proofs.Common.{refl}
use Rattle.std.specs.Fmt.{digits}
use Rattle.hex.specs.Hex.{encode_with}
use Rattle.sip_uri.specs.Reading.{rest_of, reading_of}
use Rattle.sip_header.specs.CoreFields.{core_in}
use Rattle.sip_digest.specs.NonceText.{nonce_text}
use Rattle.model_steps.proofs.examples.send_faults.Goals as goal

pub returns-clause-one : goal.returns-clause-one
unfolding digits encode_with rest_of reading_of core_in nonce_text
returns-clause-one c = refl

pub returns-clause-then : goal.returns-clause-then
unfolding digits encode_with rest_of reading_of core_in nonce_text
returns-clause-then c = refl

pub returns-clause-both : goal.returns-clause-both
unfolding digits encode_with rest_of reading_of core_in nonce_text
returns-clause-both c = refl

pub returns-clause-late : goal.returns-clause-late
unfolding digits encode_with rest_of reading_of core_in nonce_text
returns-clause-late c = refl
