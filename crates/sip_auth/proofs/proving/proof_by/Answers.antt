use Rattle.std.proofs.Common.{ap, ◌∙◌}
use Rattle.sip_digest.specs.Credential.{Credential}
use Rattle.sip_digest.specs.NonceText.{word_of}
use Rattle.sip_auth.proofs.proving.proof_by.Goals as goal

pub judged-requires : goal.judged-requires
judged-requires c = λ right. c.check-checked.ensures.word right ∙ ap (λ (given : Credential). word_of given.nonce) c.credential-credential.ensures
