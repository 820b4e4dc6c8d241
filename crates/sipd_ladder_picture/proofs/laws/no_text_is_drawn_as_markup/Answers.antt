use Rattle.std.specs.Prelude.{map}
use Rattle.sipd_ladder.specs.Saying.{plain}
use Rattle.sipd_ladder_picture.proofs.Printable.{printable}
use Rattle.sipd_ladder_picture.proofs.laws.no_text_is_drawn_as_markup.Goals as goal

pub returns-clause-marks : goal.returns-clause-marks
returns-clause-marks c = λ text. c.no_text_is_markup.ensures.marks (map plain text)

pub returns-clause-references : goal.returns-clause-references
returns-clause-references c = λ text. c.no_text_is_markup.ensures.references (map plain text)

pub returns-clause-printable : goal.returns-clause-printable
returns-clause-printable c = printable
