use Rattle.std.proofs.Common.{refl}
use Rattle.sip_transaction_table.proofs.Filing.{place_of}
use Rattle.sip_transaction_table.proofs.SameKey.{decides}
use Rattle.sip_transaction_table.proofs.table.TransactionTable.get.Goals as goal

pub returns-clause-key : goal.returns-clause-key
returns-clause-key g c =
    rw (← c.self.view_is)
    (place_of g.R.TransactionRow.key c.self.inside.rows c.self.inside.keys c.args.place c.get.result.now (g.R.TransactionRow.key c.get.result.now) c.self.invariant
    c.get.ensures.row ((decides (g.R.TransactionRow.key c.get.result.now) (g.R.TransactionRow.key c.get.result.now)).1 refl))
