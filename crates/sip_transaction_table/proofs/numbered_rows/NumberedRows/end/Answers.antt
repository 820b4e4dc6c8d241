use Rattle.std.proofs.Common.{refl, ◌∙◌, ap}
use Rattle.std.proofs.lemmas.Option.{slice_get_read}
use Rattle.sip_transaction_table.proofs.Numbers.{replaced}
use Rattle.sip_transaction_table.proofs.numbered_rows.NumberedRows.end.Goals as goal

pub invariant_of-self : goal.invariant_of-self
invariant_of-self g c =
    let there = slice_get_read c.self.inside.rows.items _ c.args.place c.index_mut.result.now refl (rw c.self.view_is c.requires) c.index_mut.ensures.value in
    replaced g.R.TransactionRow.number c.self.inside.rows.items _ c.args.place c.index_mut.result.now c.end.new.self c.self.invariant there
    (c.end.ensures.number ∙ ap g.R.TransactionRow.number c.get_mut.ensures.value)
