use Rattle.sip_transaction_table.proofs.Numbers.{removed}
use Rattle.sip_transaction_table.proofs.numbered_rows.NumberedRows.remove.Goals as goal

pub invariant_of-self : goal.invariant_of-self
invariant_of-self g c = rw (c.take_out.ensures.items, c.take_out.ensures.capacity) (removed g.R.TransactionRow.number c.self.inside.rows.items _ c.args.place
    c.self.invariant (rw c.self.view_is c.requires))

pub returns-clause-old : goal.returns-clause-old
returns-clause-old g c = rw (← c.self.view_is) c.take_out.ensures.old
