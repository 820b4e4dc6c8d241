use Rattle.std.proofs.Common.{length}
use Rattle.model_laws.proofs.FullTable.{full_from, full_with, few_of_chain}
use Rattle.model_laws.proofs.tables.full_table_has_1024.Goals as goal

pub returns-clause-full : goal.returns-clause-full
returns-clause-full c = λ state. (full_from (length state.requests), full_with (length state.requests))

pub returns-clause-most : goal.returns-clause-most
returns-clause-most c = few_of_chain
