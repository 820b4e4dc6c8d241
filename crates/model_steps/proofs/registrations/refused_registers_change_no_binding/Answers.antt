use Rattle.std.proofs.Common.{refl}
use Rattle.std.specs.Fmt.{digits}
use Rattle.md5.specs.Md5.{block_words, rounds, compress, hash_after, digest_bytes, md5}
use Rattle.hex.specs.Hex.{encode_with}
use Rattle.sip_uri.specs.Reading.{rest_of, reading_of}
use Rattle.sip_header.specs.CoreFields.{core_in}
use Rattle.sip_digest.specs.NonceText.{nonce_text}
use Rattle.model_steps.proofs.registrations.refused_registers_change_no_binding.Goals as goal

pub returns-clause-answer : goal.returns-clause-answer
unfolding digits encode_with rest_of reading_of core_in nonce_text block_words rounds compress hash_after digest_bytes md5
returns-clause-answer c = refl

pub returns-clause-kept : goal.returns-clause-kept
unfolding digits encode_with rest_of reading_of core_in nonce_text block_words rounds compress hash_after digest_bytes md5
returns-clause-kept c = refl
