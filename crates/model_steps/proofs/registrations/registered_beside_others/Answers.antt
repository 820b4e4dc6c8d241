use Rattle.std.proofs.Common.{refl}
use Rattle.std.specs.Fmt.{digits}
use Rattle.md5.specs.Md5.{block_words, rounds, compress, hash_after, digest_bytes, md5}
use Rattle.hex.specs.Hex.{encode_with}
use Rattle.sip_uri.specs.Reading.{rest_of, reading_of}
use Rattle.sip_header.specs.CoreFields.{core_in}
use Rattle.sip_digest.specs.NonceText.{nonce_text}
use Rattle.model_steps.proofs.registrations.registered_beside_others.Goals as goal

pub returns-clause-alone : goal.returns-clause-alone
unfolding digits encode_with rest_of reading_of core_in nonce_text block_words rounds compress hash_after digest_bytes md5
returns-clause-alone c = refl

pub returns-clause-beside : goal.returns-clause-beside
unfolding digits encode_with rest_of reading_of core_in nonce_text block_words rounds compress hash_after digest_bytes md5
returns-clause-beside c = refl

pub returns-clause-audit : goal.returns-clause-audit
unfolding digits encode_with rest_of reading_of core_in nonce_text block_words rounds compress hash_after digest_bytes md5
returns-clause-audit c = refl
