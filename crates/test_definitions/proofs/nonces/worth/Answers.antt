use Rattle.std.proofs.Common.{refl}
use Rattle.std.specs.Fmt.{digits}
use Rattle.md5.specs.Md5.{block_words, rounds, compress, hash_after, digest_bytes, md5}
use Rattle.hex.specs.Hex.{encode_with}
use Rattle.sip_digest.specs.NonceText.{nonce_text}
use Rattle.test_definitions.proofs.nonces.worth.Goals as goal

pub returns-clause-first : goal.returns-clause-first
unfolding digits encode_with nonce_text block_words rounds compress hash_after digest_bytes md5
returns-clause-first c = refl

pub returns-clause-without_qop : goal.returns-clause-without_qop
unfolding digits encode_with nonce_text block_words rounds compress hash_after digest_bytes md5
returns-clause-without_qop c = refl

pub returns-clause-other_password : goal.returns-clause-other_password
unfolding digits encode_with nonce_text block_words rounds compress hash_after digest_bytes md5
returns-clause-other_password c = refl
