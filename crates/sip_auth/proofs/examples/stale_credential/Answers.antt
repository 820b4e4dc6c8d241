use Rattle.std.proofs.Common.{refl}
use Rattle.std.specs.Fmt.{digits}
use Rattle.md5.specs.Md5.{block_words, rounds, compress, hash_after, digest_bytes, md5}
use Rattle.hex.specs.Hex.{encode_with}
use Rattle.sip_uri.specs.Reading.{rest_of, reading_of}
use Rattle.sip_digest.specs.NonceText.{nonce_text}
use Rattle.sip_auth.proofs.examples.stale_credential.Goals as goal

pub returns-clause-used : goal.returns-clause-used
unfolding digits encode_with rest_of reading_of nonce_text block_words rounds compress hash_after digest_bytes md5
returns-clause-used c = refl

pub returns-clause-unknown : goal.returns-clause-unknown
unfolding digits encode_with rest_of reading_of nonce_text block_words rounds compress hash_after digest_bytes md5
returns-clause-unknown c = refl
