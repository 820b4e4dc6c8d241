use Rattle.std.proofs.Common.{refl}
use Rattle.std.proofs.lemmas.Option.{slice_get_read}
use Rattle.sip_transaction_table.proofs.Numbers.{place_of}
use Rattle.sip_transaction_table.proofs.numbered_rows.NumberedRows.get.Goals as goal

pub returns-clause-number : goal.returns-clause-number
returns-clause-number g c =
    let there = slice_get_read c.self.inside.rows.items _ c.args.place c.get.result.now refl (rw c.self.view_is c.requires) (rw c.get.ensures c.index.ensures) in
    rw (← c.self.view_is) (place_of g.R.TransactionRow.number c.self.inside.rows.items c.args.place c.get.result.now (g.R.TransactionRow.number c.get.result.now)
    c.self.invariant.rise there refl)
