use Rattle.std.proofs.Common.{refl}
use Rattle.std.specs.Fmt.{digits}
use Rattle.hex.specs.Hex.{encode_with}
use Rattle.sip_journal.proofs.examples.first_line_example.Goals as goal

pub returns-clause-text : goal.returns-clause-text
unfolding digits encode_with
returns-clause-text c = refl
