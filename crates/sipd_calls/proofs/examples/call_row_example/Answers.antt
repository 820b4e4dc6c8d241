use Rattle.std.proofs.Common.{refl}
use Rattle.std.specs.Char.{encode_utf8}
use Rattle.std.specs.Fmt.{digits}
use Rattle.std.specs.Str.{chars, is_utf8}
use Rattle.sipd_report.specs.Calendar.{day_behind}
use Rattle.sipd_calls.proofs.examples.call_row_example.Goals as goal

pub returns-clause-row : goal.returns-clause-row
unfolding digits day_behind
returns-clause-row c = refl

pub returns-clause-csv : goal.returns-clause-csv
unfolding digits day_behind chars is_utf8 encode_utf8
returns-clause-csv c = refl

pub returns-clause-json : goal.returns-clause-json
unfolding digits day_behind
returns-clause-json c = refl

pub returns-clause-html : goal.returns-clause-html
unfolding digits day_behind
returns-clause-html c = refl
