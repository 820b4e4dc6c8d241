use Rattle.sipd_calls.proofs.Formulas.{cell_is_plain, written_is_plain}
use Rattle.sipd_calls.specs.Notation.{cell_said}
use Rattle.sipd_calls.proofs.laws.no_cell_is_a_formula.Goals as goal

pub returns-clause-said : goal.returns-clause-said
returns-clause-said c = λ text. c.fields_are_read.ensures (cell_said text)

pub returns-clause-plain : goal.returns-clause-plain
returns-clause-plain c = λ text. cell_is_plain text

pub returns-clause-written : goal.returns-clause-written
returns-clause-written c = λ text. written_is_plain text
