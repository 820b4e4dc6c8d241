use Rattle.sipd_report.proofs.Escapes.{no_markup, references}
use Rattle.sipd_report.proofs.laws.no_text_is_markup.Goals as goal

pub returns-clause-marks : goal.returns-clause-marks
returns-clause-marks c = no_markup

pub returns-clause-references : goal.returns-clause-references
returns-clause-references c = references
