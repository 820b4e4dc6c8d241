use Rattle.std.proofs.Common.{ap, Bool}
use Rattle.sip_digest.specs.NonceText.{nonce_text}
use Rattle.sip_auth.specs.Proof.{is_stale}
use Rattle.sip_auth.proofs.Algorithms.{alone_is}
use Rattle.sip_edit_response.specs.Challenges.{challenge_fields}
use Rattle.model_steps.specs.Effect.{challenge_name}
use Rattle.sip_model.proofs.laws.md5_alone_is_unchanged.Goals as goal

pub returns : goal.returns
returns c =
    λ server a q alone.
    ap (λ (b : Bool). challenge_fields (challenge_name q.operation) b server.config.realm (nonce_text a.word) (is_stale q.proof)) ((alone_is server.config.users).0 alone)
