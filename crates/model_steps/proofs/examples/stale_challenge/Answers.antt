use Rattle.std.proofs.Common.{refl}
use Rattle.std.specs.Fmt.{digits}
use Rattle.md5.specs.Md5.{block_words, rounds, compress, hash_after, digest_bytes, md5}
use Rattle.hex.specs.Hex.{encode_with}
use Rattle.sip_uri.specs.Reading.{rest_of, reading_of}
use Rattle.sip_header.specs.CoreFields.{core_in}
use Rattle.sip_digest.specs.NonceText.{nonce_text}
use Rattle.model_steps.proofs.examples.stale_challenge.Goals as goal

pub returns-clause-sends : goal.returns-clause-sends
unfolding digits encode_with rest_of reading_of core_in nonce_text block_words rounds compress hash_after digest_bytes md5
returns-clause-sends c = refl

pub returns-clause-audit : goal.returns-clause-audit
unfolding digits encode_with rest_of reading_of core_in nonce_text block_words rounds compress hash_after digest_bytes md5
returns-clause-audit c = refl

pub returns-clause-bound : goal.returns-clause-bound
unfolding digits encode_with rest_of reading_of core_in nonce_text block_words rounds compress hash_after digest_bytes md5
returns-clause-bound c = refl
