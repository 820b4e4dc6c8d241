use Rattle.std.proofs.Common.{◌≡◌, ◌<◌, List, length, sym, ap, subst}
use Rattle.sip_transaction_table.proofs.Filing.{replaced}
use Rattle.sip_transaction_table.proofs.Places.{at_place}
use Rattle.sip_transaction_table.proofs.table.TransactionTable.end.Goals as goal

pub invariant_of-self : goal.invariant_of-self
invariant_of-self g c =
    let rows : c.args.self.now.rows ≡ c.self.inside.rows = sym (ap (λ v. v.rows) c.self.view_is) in
    let within : c.args.place < length c.self.inside.rows = subst (λ (xs : List _). c.args.place < length xs) rows c.requires in
    let there = at_place c.self.inside.rows c.args.place within in
    rw (c.end.ensures.ended there.0 there.1)
    (replaced g.R.TransactionRow.key c.self.inside.rows c.self.inside.keys c.args.place there.0 (g.R.TransactionRow.ended c.args.transaction there.0) c.self.invariant
    there.1 (c.end.ensures.key there.0 there.1))
