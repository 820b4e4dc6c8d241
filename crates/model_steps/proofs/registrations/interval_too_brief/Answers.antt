use Rattle.std.proofs.Common.{◌≡◌, ◌∙◌, ap, refl, Some, false, [], ◌∷◌, codes}
use Rattle.std.specs.Prelude.{map, Option, Bool}
use Rattle.std.specs.Option.{option_map_or}
use Rattle.std.specs.Fmt.{digits}
use Rattle.md5.specs.Md5.{block_words, rounds, compress, hash_after, digest_bytes, md5}
use Rattle.hex.specs.Hex.{encode_with}
use Rattle.sip_uri.specs.Reading.{rest_of, reading_of}
use Rattle.sip_message.specs.Reading as Bytes
use Rattle.sip_message_form.specs.Text.{text_of}
use Rattle.sip_message_form.specs.declared.message.Message.{Message}
use Rattle.sip_header.specs.CoreFields.{core_in}
use Rattle.sip_digest.specs.NonceText.{nonce_text}
use Rattle.sip_audit.specs.Lines.{line_of}
use Rattle.model_verdict.specs.Verdict.{message_in, verdict_in}
use Rattle.model_steps.specs.Effect.{Effect, effect_of, counted, nothing}
use Rattle.model_steps.specs.Examples.{sample, arriving_at, packet_of, whole_effect, challenge_effect}
use Rattle.model_steps.specs.RegisterExamples.{brief_register, brief_effect, brief_text, used_nonce}
use Rattle.model_steps.proofs.registrations.interval_too_brief.Goals as goal

-- the datagram says the REGISTER
said : message_in (Bytes.reading_of (text_of brief_register)) ≡ Some (brief_register, false)
unfolding digits encode_with nonce_text block_words rounds compress hash_after digest_bytes md5 Bytes.reading_of Bytes.datagram_of Bytes.message_from
said = refl

-- so it does what that does
effect_is : brief_effect ≡ whole_effect challenge_effect.state (arriving_at 2 2000 5062) brief_register
effect_is =
    ap (λ (o : Option (Message × Bool)).
    option_map_or (λ x. effect_of sample (arriving_at 2 2000 5062) x.0 x.1 (counted (arriving_at 2 2000 5062) challenge_effect.state))
    (verdict_in sample challenge_effect.state (arriving_at 2 2000 5062) o) (nothing (counted (arriving_at 2 2000 5062) challenge_effect.state))) said

sends : (whole_effect challenge_effect.state (arriving_at 2 2000 5062) brief_register).originals ≡ packet_of 5062 2 0 brief_text ∷ []
unfolding digits encode_with rest_of reading_of core_in nonce_text block_words rounds compress hash_after digest_bytes md5
sends = refl

audit : map line_of (whole_effect challenge_effect.state (arriving_at 2 2000 5062) brief_register).records
    ≡ codes "2000 2 REGISTER Mufasa Mufasa@host.com register 1 answer 423" ∷ []
unfolding digits encode_with rest_of reading_of core_in nonce_text block_words rounds compress hash_after digest_bytes md5
audit = refl

unbound : (whole_effect challenge_effect.state (arriving_at 2 2000 5062) brief_register).state.bindings ≡ []
unfolding digits encode_with rest_of reading_of core_in nonce_text block_words rounds compress hash_after digest_bytes md5
unbound = refl

uses : (whole_effect challenge_effect.state (arriving_at 2 2000 5062) brief_register).state.nonces ≡ used_nonce ∷ []
unfolding digits encode_with rest_of reading_of core_in nonce_text block_words rounds compress hash_after digest_bytes md5
uses = refl

pub returns-clause-sends : goal.returns-clause-sends
returns-clause-sends c = ap (λ (e : Effect). e.originals) effect_is ∙ sends

pub returns-clause-audit : goal.returns-clause-audit
returns-clause-audit c = ap (λ (e : Effect). map line_of e.records) effect_is ∙ audit

pub returns-clause-unbound : goal.returns-clause-unbound
returns-clause-unbound c = ap (λ (e : Effect). e.state.bindings) effect_is ∙ unbound

pub returns-clause-used : goal.returns-clause-used
returns-clause-used c = ap (λ (e : Effect). e.state.nonces) effect_is ∙ uses
