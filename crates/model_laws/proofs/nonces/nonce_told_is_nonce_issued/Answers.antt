use Rattle.sip_auth.specs.Proof.{is_stale, used}
use Rattle.sip_auth.specs.Offer.{offers_sha256}
use Rattle.sip_digest.specs.NonceText.{nonce_text}
use Rattle.sip_model.specs.steps_model.Effect.{challenge_name}
use Rattle.model_laws.proofs.Issuing.{all_told, some_told, known_once_issued, new_once_issued}
use Rattle.std.proofs.Common.{refl}
use Rattle.model_laws.proofs.nonces.nonce_told_is_nonce_issued.Goals as goal

pub returns-clause-tells : goal.returns-clause-tells
returns-clause-tells c = λ server a q. all_told (challenge_name q.operation) server.config.realm (nonce_text a.word) (is_stale q.proof)
    (offers_sha256 server.config.users)

pub returns-clause-several : goal.returns-clause-several
returns-clause-several c = λ server a q. some_told (challenge_name q.operation) server.config.realm (nonce_text a.word) (is_stale q.proof)
    (offers_sha256 server.config.users)

pub returns-clause-read : goal.returns-clause-read
returns-clause-read c = λ word fits. (c.text_names_its_word.ensures (nonce_text word) word).1 (fits, refl)

pub returns-clause-known : goal.returns-clause-known
returns-clause-known c = λ server a m q state. known_once_issued (used state.nonces a.now q.proof) a.word a.now

pub returns-clause-fresh : goal.returns-clause-fresh
returns-clause-fresh c = new_once_issued
