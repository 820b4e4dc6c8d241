use Rattle.sip_text.specs.Escapes.{unescaped}
use Rattle.sip_text.specs.EscapedText.{IsEscaped}
use Rattle.sip_text.proofs.NoneLaws.{none_both}
use Rattle.sip_text.proofs.EscapedLaws.{escaped_both}
use Rattle.sip_text.proofs.laws.escapes_are_pieces.Goals as goal

pub returns-clause-bytes : goal.returns-clause-bytes
returns-clause-bytes c = escaped_both

pub returns-clause-refused : goal.returns-clause-refused
returns-clause-refused c = λ text. none_both (IsEscaped text) (unescaped text) (escaped_both text)
