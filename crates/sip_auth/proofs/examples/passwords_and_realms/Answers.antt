use Rattle.std.proofs.Common.{refl}
use Rattle.std.specs.Fmt.{digits}
use Rattle.md5.specs.Md5.{block_words, rounds, compress, hash_after, digest_bytes, md5}
use Rattle.hex.specs.Hex.{encode_with}
use Rattle.sip_uri.specs.Reading.{rest_of, reading_of}
use Rattle.sip_digest.specs.NonceText.{nonce_text}
use Rattle.sip_auth.proofs.examples.passwords_and_realms.Goals as goal

pub returns-clause-password : goal.returns-clause-password
unfolding digits encode_with rest_of reading_of nonce_text block_words rounds compress hash_after digest_bytes md5
returns-clause-password c = refl

pub returns-clause-foreign_first : goal.returns-clause-foreign_first
unfolding digits encode_with rest_of reading_of nonce_text block_words rounds compress hash_after digest_bytes md5
returns-clause-foreign_first c = refl

pub returns-clause-foreign_last : goal.returns-clause-foreign_last
unfolding digits encode_with rest_of reading_of nonce_text block_words rounds compress hash_after digest_bytes md5
returns-clause-foreign_last c = refl

pub returns-clause-foreign_alone : goal.returns-clause-foreign_alone
unfolding digits encode_with rest_of reading_of nonce_text block_words rounds compress hash_after digest_bytes md5
returns-clause-foreign_alone c = refl
