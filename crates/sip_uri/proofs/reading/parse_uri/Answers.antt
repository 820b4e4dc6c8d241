use Rattle.std.proofs.Common.{subst}
use Rattle.sip_uri.specs.Reading.{Gives}
use Rattle.sip_uri.proofs.ReadingLaws.{is_read, reading_is}
use Rattle.sip_uri.proofs.reading.parse_uri.Goals as goal

pub returns-clause-grammar : goal.returns-clause-grammar
returns-clause-grammar c = is_read c.args.text.now c.read_uri.result c.read_uri.ensures

pub returns-clause-only : goal.returns-clause-only
returns-clause-only c = λ uri written. subst (λ r. Gives (λ u. u) c.read_uri.result r) (reading_is c.args.text.now uri written) c.read_uri.ensures
