use Rattle.std.proofs.Common.{refl}
use Rattle.std.specs.Fmt.{digits}
use Rattle.md5.specs.Md5.{block_words, rounds, compress, hash_after, digest_bytes, md5}
use Rattle.hex.specs.Hex.{encode_with}
use Rattle.sip_digest.specs.NonceText.{nonce_text}
use Rattle.test_definitions.proofs.nonces.lives.Goals as goal

pub returns-clause-last : goal.returns-clause-last
unfolding digits encode_with nonce_text block_words rounds compress hash_after digest_bytes md5
returns-clause-last c = refl
