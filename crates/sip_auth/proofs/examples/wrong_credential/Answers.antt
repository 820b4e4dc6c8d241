use Rattle.std.proofs.Common.{refl}
use Rattle.std.specs.Fmt.{digits}
use Rattle.md5.specs.Md5.{block_words, rounds, compress, hash_after, digest_bytes, md5}
use Rattle.hex.specs.Hex.{encode_with}
use Rattle.sip_uri.specs.Reading.{rest_of, reading_of}
use Rattle.sip_digest.specs.NonceText.{nonce_text}
use Rattle.sip_auth.proofs.examples.wrong_credential.Goals as goal

pub returns-clause-answer : goal.returns-clause-answer
unfolding digits encode_with rest_of reading_of nonce_text block_words rounds compress hash_after digest_bytes md5
returns-clause-answer c = refl

pub returns-clause-unknown_user : goal.returns-clause-unknown_user
unfolding digits encode_with rest_of reading_of nonce_text block_words rounds compress hash_after digest_bytes md5
returns-clause-unknown_user c = refl

pub returns-clause-other_uri : goal.returns-clause-other_uri
unfolding digits encode_with rest_of reading_of nonce_text block_words rounds compress hash_after digest_bytes md5
returns-clause-other_uri c = refl

pub returns-clause-other_realm : goal.returns-clause-other_realm
unfolding digits encode_with rest_of reading_of nonce_text block_words rounds compress hash_after digest_bytes md5
returns-clause-other_realm c = refl
