use Rattle.std.proofs.Common.{◌==◌, [], ◌∷◌, refl, true≢false}
use Rattle.sip_digest.specs.declared.nonces.Nonce.{Nonce}
use Rattle.sip_model.specs.SamenessExamples.{issued_at}
use Rattle.sip_model.proofs.SameNonces.{live_alike}
use Rattle.sip_model.proofs.sameness_examples.nonces_that_are_over.Goals as goal

pub returns-clause-over : goal.returns-clause-over
returns-clause-over c = refl

pub returns-clause-lives : goal.returns-clause-lives
returns-clause-lives c = λ h.
    true≢false (live_alike (λ (row : Nonce). row.since == 1000) 300999 (issued_at 1000 7 ∷ issued_at 9000 0 ∷ []) (issued_at 9000 0 ∷ []) h)

pub returns-clause-used : goal.returns-clause-used
returns-clause-used c = λ h.
    true≢false (live_alike (λ (row : Nonce). row.count == 1) 2000 (issued_at 1000 1 ∷ []) (issued_at 1000 2 ∷ []) h)
