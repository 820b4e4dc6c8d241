use Rattle.std.proofs.Common.{◌≡◌, sym, ◌∙◌, ap, arith, length}
use Rattle.sip_transaction_table.proofs.Filing.{as_many, pushed}
use Rattle.sip_transaction_table.proofs.table.TransactionTable.push.Goals as goal

pub add-requires-clause-rows : goal.add-requires-clause-rows
add-requires-clause-rows g c = omega (
  arith,
  c.requires.few,
  as_many g.R.TransactionRow.key c.self.inside.rows c.self.inside.keys c.self.invariant,
  ap (λ v. length v.rows) c.self.view_is,
)

pub invariant_of-self : goal.invariant_of-self
invariant_of-self g c =
    let rows : c.args.self.now.rows ≡ c.self.inside.rows = sym (ap (λ v. v.rows) c.self.view_is) in
    let key : c.key.result.now ≡ g.R.TransactionRow.key c.args.row = c.key.ensures ∙ ap g.R.TransactionRow.key c.get.ensures in
    rw c.push.ensures (pushed g.R.TransactionRow.key c.self.inside.rows c.self.inside.keys c.add.new.self c.args.row c.self.invariant (rw (← rows) c.requires.alone)
    c.add.ensures.secret (λ d. rw (← key) (c.add.ensures.counts d)) (rw (← key) c.add.ensures.digests))
