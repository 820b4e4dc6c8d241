use Rattle.sip_location.proofs.binding_table.BindingTable.rows_of.Goals as goal

pub returns : goal.returns
returns c = rw c.of.ensures at c.rows_at.ensures
