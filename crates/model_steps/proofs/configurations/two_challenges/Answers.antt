use Rattle.std.proofs.Common.{refl}
use Rattle.std.specs.Fmt.{digits}
use Rattle.md5.specs.Md5.{block_words, rounds, compress, hash_after, digest_bytes, md5}
use Rattle.sha2.specs.Sha256.{first_words, schedule, rounds as rounds256, compress as compress256, hash_after as hash_after256, digest_bytes as digest_bytes256, sha256}
use Rattle.hex.specs.Hex.{encode_with}
use Rattle.sip_uri.specs.Reading.{rest_of, reading_of}
use Rattle.sip_header.specs.CoreFields.{core_in}
use Rattle.sip_digest.specs.NonceText.{nonce_text}
use Rattle.model_steps.proofs.configurations.two_challenges.Goals as goal

pub returns-clause-challenged : goal.returns-clause-challenged
unfolding digits encode_with rest_of reading_of core_in nonce_text block_words rounds compress hash_after digest_bytes md5 first_words schedule rounds256 compress256
    hash_after256 digest_bytes256 sha256
returns-clause-challenged c = refl

pub returns-clause-registered : goal.returns-clause-registered
unfolding digits encode_with rest_of reading_of core_in nonce_text block_words rounds compress hash_after digest_bytes md5 first_words schedule rounds256 compress256
    hash_after256 digest_bytes256 sha256
returns-clause-registered c = refl

pub returns-clause-audit : goal.returns-clause-audit
unfolding digits encode_with rest_of reading_of core_in nonce_text block_words rounds compress hash_after digest_bytes md5 first_words schedule rounds256 compress256
    hash_after256 digest_bytes256 sha256
returns-clause-audit c = refl
