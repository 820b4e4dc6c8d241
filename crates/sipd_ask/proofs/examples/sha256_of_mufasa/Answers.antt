use Rattle.std.proofs.Common.{refl}
use Rattle.sha2.specs.Sha256.{first_words, schedule, rounds, compress, hash_after, digest_bytes, sha256}
use Rattle.hex.specs.Hex.{encode_with}
use Rattle.sipd_ask.proofs.examples.sha256_of_mufasa.Goals as goal

pub returns : goal.returns
unfolding encode_with first_words schedule rounds compress hash_after digest_bytes sha256
returns c = refl
