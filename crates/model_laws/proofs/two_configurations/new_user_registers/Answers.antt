use Rattle.std.proofs.Common.{refl}
use Rattle.std.specs.Fmt.{digits}
use Rattle.md5.specs.Md5.{block_words, rounds, compress, hash_after, digest_bytes, md5}
use Rattle.hex.specs.Hex.{encode_with}
use Rattle.sip_uri.specs.Reading.{rest_of, reading_of}
use Rattle.sip_header.specs.CoreFields.{core_in}
use Rattle.sip_digest.specs.NonceText.{nonce_text}
use Rattle.model_laws.proofs.two_configurations.new_user_registers.Goals as goal

pub returns-clause-denied : goal.returns-clause-denied
unfolding digits encode_with rest_of reading_of core_in nonce_text block_words rounds compress hash_after digest_bytes md5
returns-clause-denied c = refl

pub returns-clause-by_no_rule : goal.returns-clause-by_no_rule
unfolding digits encode_with rest_of reading_of core_in nonce_text block_words rounds compress hash_after digest_bytes md5
returns-clause-by_no_rule c = refl

pub returns-clause-challenged : goal.returns-clause-challenged
unfolding digits encode_with rest_of reading_of core_in nonce_text block_words rounds compress hash_after digest_bytes md5
returns-clause-challenged c = refl

pub returns-clause-let_through : goal.returns-clause-let_through
unfolding digits encode_with rest_of reading_of core_in nonce_text block_words rounds compress hash_after digest_bytes md5
returns-clause-let_through c = refl

pub returns-clause-bound : goal.returns-clause-bound
unfolding digits encode_with rest_of reading_of core_in nonce_text block_words rounds compress hash_after digest_bytes md5
returns-clause-bound c = refl
