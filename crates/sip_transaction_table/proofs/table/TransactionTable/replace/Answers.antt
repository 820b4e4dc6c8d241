use Rattle.std.proofs.Common.{◌≡◌, ◌<◌, Some, List, length, get_or, slice_get, sym, ap, subst}
use Rattle.std.proofs.lemmas.Option.{slice_get-get_or}
use Rattle.sip_transaction_table.proofs.Filing.{replaced}
use Rattle.sip_transaction_table.proofs.table.TransactionTable.replace.Goals as goal

pub invariant_of-self : goal.invariant_of-self
invariant_of-self g c =
    let rows : c.args.self.now.rows ≡ c.self.inside.rows = sym (ap (λ v. v.rows) c.self.view_is) in
    let within : c.args.place < length c.self.inside.rows = subst (λ (xs : List _). c.args.place < length xs) rows c.requires.place in
    let there : slice_get c.self.inside.rows c.args.place ≡ Some (get_or c.self.inside.rows c.args.place c.args.row) =
    slice_get-get_or c.self.inside.rows c.args.place c.args.row within in
    rw c.replace.ensures
    (replaced g.R.TransactionRow.key c.self.inside.rows c.self.inside.keys c.args.place (get_or c.self.inside.rows c.args.place c.args.row) c.args.row c.self.invariant
    there (c.requires.key _ (rw (← c.self.view_is) there)))
