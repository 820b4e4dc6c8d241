use Rattle.std.proofs.Common.{◌∙◌, ap}
use Rattle.sip_dialog.specs.Rows.{Entries}
use Rattle.sip_dialog.proofs.Tables.{in_dialog_at, in_no_dialog, read_there}
use Rattle.sip_dialog.proofs.rows.DialogRows.allows.Goals as goal

pub returns-in-Some : goal.returns-in-Some
returns-in-Some c =
    let there = read_there c.self.inside.rows.items c.index.result.now c.in-Some.ensures (ap (λ (v : Entries). v.entries) c.self.view_is) c.index.ensures in
    c.allows.ensures ∙ in_dialog_at _ _ _ _ c.in-Some.at c.index.result.now c.in-Some.ensures there

pub returns-in-None : goal.returns-in-None
returns-in-None c = in_no_dialog _ _ _ _ c.in-None.ensures
