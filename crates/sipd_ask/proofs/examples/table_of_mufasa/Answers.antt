use Rattle.std.proofs.Common.{refl}
use Rattle.md5.specs.Md5.{block_words, rounds, compress, hash_after, digest_bytes, md5}
use Rattle.hex.specs.Hex.{encode_with}
use Rattle.sipd_ask.proofs.examples.table_of_mufasa.Goals as goal

pub returns-clause-md5 : goal.returns-clause-md5
unfolding encode_with block_words rounds compress hash_after digest_bytes md5
returns-clause-md5 c = refl

pub returns-clause-both : goal.returns-clause-both
unfolding encode_with block_words rounds compress hash_after digest_bytes md5
returns-clause-both c = refl
