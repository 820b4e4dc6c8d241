use Rattle.std.proofs.Common.{refl}
use Rattle.std.specs.Fmt.{digits}
use Rattle.md5.specs.Md5.{block_words, rounds, compress, hash_after, digest_bytes, md5}
use Rattle.hex.specs.Hex.{encode_with}
use Rattle.sip_uri.specs.Reading.{rest_of, reading_of}
use Rattle.sip_header.specs.CoreFields.{core_in}
use Rattle.sip_digest.specs.NonceText.{nonce_text}
use Rattle.model_laws.proofs.two_configurations.changed_key_is_wrong.Goals as goal

pub returns-clause-wrong : goal.returns-clause-wrong
unfolding digits encode_with rest_of reading_of core_in nonce_text block_words rounds compress hash_after digest_bytes md5
returns-clause-wrong c = refl

pub returns-clause-challenged : goal.returns-clause-challenged
unfolding digits encode_with rest_of reading_of core_in nonce_text block_words rounds compress hash_after digest_bytes md5
returns-clause-challenged c = refl

pub returns-clause-unspent : goal.returns-clause-unspent
unfolding digits encode_with rest_of reading_of core_in nonce_text block_words rounds compress hash_after digest_bytes md5
returns-clause-unspent c = refl

pub returns-clause-right : goal.returns-clause-right
unfolding digits encode_with rest_of reading_of core_in nonce_text block_words rounds compress hash_after digest_bytes md5
returns-clause-right c = refl
