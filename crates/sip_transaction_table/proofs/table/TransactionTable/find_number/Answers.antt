use Rattle.std.proofs.Common.{◌==◌, ◌∙◌, ap}
use Rattle.std.specs.Prelude.{slice_get}
use Rattle.std.specs.Option.{option_and_then}
use Rattle.sip_transaction_table.proofs.Places.{found}
use Rattle.sip_transaction_table.proofs.table.TransactionTable.find_number.Goals as goal

pub returns-clause-row : goal.returns-clause-row
returns-clause-row g c = rw (← c.self.view_is) (ap (option_and_then (slice_get c.self.inside.rows)) c.find.ensures
    ∙ found (λ r. g.R.TransactionRow.number r == c.args.number) c.self.inside.rows)
