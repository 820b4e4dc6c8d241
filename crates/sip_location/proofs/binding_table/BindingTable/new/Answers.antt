use Rattle.std.proofs.Common.{refl}
use Rattle.sip_location.proofs.Finding.{no_rows}
use Rattle.sip_location.proofs.binding_table.BindingTable.new.Goals as goal

pub returns : goal.returns
returns c = rw c.new-2.ensures.items (no_rows _ (λ code. rw c.new.ensures.empty refl))
