use Rattle.std.proofs.Common.{Some}
use Rattle.sip_digest.specs.Protection.{count_in}
use Rattle.sip_digest.specs.Nonces.{row_of}
use Rattle.sip_digest.proofs.Formulas.{right_text}
use Rattle.sip_digest.proofs.laws.md5_is_unchanged.Goals as goal

pub returns-clause-without_qop : goal.returns-clause-without_qop
returns-clause-without_qop c = λ rows a1 method uri nonce response now. right_text response _ (row_of rows nonce now) (Some 1)

pub returns-clause-with_qop : goal.returns-clause-with_qop
returns-clause-with_qop c = λ rows a1 method uri nonce count client response now. right_text response _ (row_of rows nonce now) (count_in count)
