use Rattle.sipd_report.proofs.Fields.{field_back}
use Rattle.sipd_report.proofs.laws.fields_are_read.Goals as goal

pub returns : goal.returns
returns c = field_back
