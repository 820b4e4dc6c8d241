use Rattle.sip_digest.proofs.nonces.same_at.Goals as goal

pub returns : goal.returns
returns c = rw (← c.nonce_at.ensures, ← c.nonce_at-2.ensures) c.same_nonce.ensures
