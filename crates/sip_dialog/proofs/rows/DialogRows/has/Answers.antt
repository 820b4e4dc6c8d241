use Rattle.std.proofs.Common.{ap}
use Rattle.sip_dialog.specs.Rows.{Entries}
use Rattle.sip_dialog.proofs.Seen.{row_stands}
use Rattle.sip_dialog.proofs.Tables.{read_there}
use Rattle.sip_dialog.proofs.rows.DialogRows.has.Goals as goal

pub returns-in-Some : goal.returns-in-Some
returns-in-Some c = λ is.
    let there = read_there c.self.inside.rows.items c.index.result.now c.in-Some.ensures (ap (λ (v : Entries). v.entries) c.self.view_is) c.index.ensures in
    row_stands c.args.id.now c.args.standing.now c.args.self.now.entries c.in-Some.at c.index.result.now there (c.is_row_of.ensures.name is)
    (c.is_row_of.ensures.seen is)
