use Rattle.sip_text.specs.Escapes.{unquoted}
use Rattle.sip_text.specs.QuotedText.{IsQuoted}
use Rattle.sip_text.proofs.NoneLaws.{none_both}
use Rattle.sip_text.proofs.QuotedLaws.{quoted_both}
use Rattle.sip_text.proofs.laws.quotes_are_pieces.Goals as goal

pub returns-clause-bytes : goal.returns-clause-bytes
returns-clause-bytes c = quoted_both

pub returns-clause-refused : goal.returns-clause-refused
returns-clause-refused c = λ text. none_both (IsQuoted text) (unquoted text) (quoted_both text)
