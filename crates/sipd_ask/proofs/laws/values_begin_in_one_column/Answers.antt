use Rattle.sipd_ask.proofs.Columns.{whole_column, one_blank}
use Rattle.sipd_ask.proofs.laws.values_begin_in_one_column.Goals as goal

pub returns-clause-column : goal.returns-clause-column
returns-clause-column c = λ key short. whole_column key short

pub returns-clause-longer : goal.returns-clause-longer
returns-clause-longer c = λ key long. one_blank key long
