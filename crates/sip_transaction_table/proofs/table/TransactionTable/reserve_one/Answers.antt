use Rattle.sip_transaction_table.proofs.Filing.{kept}
use Rattle.sip_transaction_table.proofs.table.TransactionTable.reserve_one.Goals as goal

pub invariant_of-self : goal.invariant_of-self
invariant_of-self g c = kept g.R.TransactionRow.key c.self.inside.rows c.self.inside.keys c.reserve.new.self c.self.invariant c.reserve.ensures.secret
    c.reserve.ensures.counts
    c.reserve.ensures.digests
