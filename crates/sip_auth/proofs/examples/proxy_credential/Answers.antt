use Rattle.std.proofs.Common.{refl}
use Rattle.std.specs.Fmt.{digits}
use Rattle.md5.specs.Md5.{block_words, rounds, compress, hash_after, digest_bytes, md5}
use Rattle.hex.specs.Hex.{encode_with}
use Rattle.sip_uri.specs.Reading.{rest_of, reading_of}
use Rattle.sip_digest.specs.NonceText.{nonce_text}
use Rattle.sip_auth.proofs.examples.proxy_credential.Goals as goal

pub returns-clause-right : goal.returns-clause-right
unfolding digits encode_with rest_of reading_of nonce_text block_words rounds compress hash_after digest_bytes md5
returns-clause-right c = refl
