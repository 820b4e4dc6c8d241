use Rattle.std.proofs.Common.{refl}
use Rattle.std.specs.Fmt.{digits}
use Rattle.md5.specs.Md5.{block_words, rounds, compress, hash_after, digest_bytes, md5}
use Rattle.sha2.specs.Sha256.{first_words, schedule, rounds as rounds256, compress as compress256, hash_after as hash_after256, digest_bytes as digest_bytes256, sha256}
use Rattle.hex.specs.Hex.{encode_with}
use Rattle.sip_uri.specs.Reading.{rest_of, reading_of}
use Rattle.sip_digest.specs.NonceText.{nonce_text}
use Rattle.sip_auth.proofs.examples.sha256_credential.Goals as goal

pub returns-clause-right : goal.returns-clause-right
unfolding digits encode_with rest_of reading_of nonce_text block_words rounds compress hash_after digest_bytes md5 first_words schedule rounds256 compress256
    hash_after256 digest_bytes256 sha256
returns-clause-right c = refl

pub returns-clause-case : goal.returns-clause-case
unfolding digits encode_with rest_of reading_of nonce_text block_words rounds compress hash_after digest_bytes md5 first_words schedule rounds256 compress256
    hash_after256 digest_bytes256 sha256
returns-clause-case c = refl

pub returns-clause-other_algorithm : goal.returns-clause-other_algorithm
unfolding digits encode_with rest_of reading_of nonce_text block_words rounds compress hash_after digest_bytes md5 first_words schedule rounds256 compress256
    hash_after256 digest_bytes256 sha256
returns-clause-other_algorithm c = refl

pub returns-clause-without_qop : goal.returns-clause-without_qop
unfolding digits encode_with rest_of reading_of nonce_text block_words rounds compress hash_after digest_bytes md5 first_words schedule rounds256 compress256
    hash_after256 digest_bytes256 sha256
returns-clause-without_qop c = refl

pub returns-clause-without_key : goal.returns-clause-without_key
unfolding digits encode_with rest_of reading_of nonce_text block_words rounds compress hash_after digest_bytes md5 first_words schedule rounds256 compress256
    hash_after256 digest_bytes256 sha256
returns-clause-without_key c = refl
