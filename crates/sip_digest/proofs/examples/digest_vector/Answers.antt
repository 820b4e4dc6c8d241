use Rattle.std.proofs.Common.{refl}
use Rattle.md5.specs.Md5.{block_words, rounds, compress, hash_after, digest_bytes, md5}
use Rattle.hex.specs.Hex.{encode_with}
use Rattle.sip_digest.proofs.examples.digest_vector.Goals as goal

pub returns-clause-a1 : goal.returns-clause-a1
unfolding encode_with block_words rounds compress hash_after digest_bytes md5
returns-clause-a1 c = refl

pub returns-clause-a2 : goal.returns-clause-a2
unfolding encode_with block_words rounds compress hash_after digest_bytes md5
returns-clause-a2 c = refl

pub returns-clause-answer : goal.returns-clause-answer
unfolding encode_with block_words rounds compress hash_after digest_bytes md5
returns-clause-answer c = refl
