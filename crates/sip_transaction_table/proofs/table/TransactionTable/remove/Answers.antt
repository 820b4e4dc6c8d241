use Rattle.std.proofs.Common.{◌≡◌, ◌∙◌, ap, arith, length, position}
use Rattle.sip_transaction_table.specs.Digest.{digest_of}
use Rattle.sip_transaction_table.specs.Key.{same_key}
use Rattle.sip_transaction_table.proofs.Filing.{as_many, closed, counts_once, digest_at, removed}
use Rattle.sip_transaction_table.proofs.table.TransactionTable.remove.Goals as goal

pub take_digest-digest-requires : goal.take_digest-digest-requires
take_digest-digest-requires g c = omega (
  arith,
  c.requires,
  as_many g.R.TransactionRow.key c.self.inside.rows c.self.inside.keys c.self.invariant,
  ap (λ v. length v.rows) c.self.view_is,
)

pub remove-requires : goal.remove-requires
remove-requires g c =
    let is : c.take_digest-digest.result ≡ digest_of c.self.inside.keys.secret (g.R.TransactionRow.key c.remove-row.result) =
    digest_at g.R.TransactionRow.key c.self.inside.rows c.self.inside.keys c.args.place c.remove-row.result c.take_digest-digest.result c.self.invariant
    c.remove-row.ensures.old
    c.take_digest-digest.ensures.digest in
    rw (c.take_digest-digest.ensures.entries, is) (counts_once g.R.TransactionRow.key c.self.inside.rows c.self.inside.keys c.args.place c.remove-row.result
    c.self.invariant c.remove-row.ensures.old)

pub invariant_of-self : goal.invariant_of-self
invariant_of-self g c =
    let is : c.take_digest-digest.result ≡ digest_of c.self.inside.keys.secret (g.R.TransactionRow.key c.remove-row.result) =
    digest_at g.R.TransactionRow.key c.self.inside.rows c.self.inside.keys c.args.place c.remove-row.result c.take_digest-digest.result c.self.invariant
    c.remove-row.ensures.old
    c.take_digest-digest.ensures.digest in
    rw c.remove-row.ensures.new
    (removed g.R.TransactionRow.key c.self.inside.rows c.self.inside.keys c.remove.new.self c.args.place c.remove-row.result c.self.invariant c.remove-row.ensures.old
    (c.remove.ensures.secret ∙ c.take_digest-digest.ensures.secret) (λ d. rw (← is, ← c.take_digest-digest.ensures.entries) (c.remove.ensures.counts d))
    (c.remove.ensures.digests ∙ c.take_digest-digest.ensures.digests))

pub returns-clause-closed : goal.returns-clause-closed
returns-clause-closed g c =
    ap (position (λ r. same_key (g.R.TransactionRow.key r) (g.R.TransactionRow.key c.remove-row.result))) c.remove-row.ensures.new
    ∙ closed g.R.TransactionRow.key c.self.inside.rows c.self.inside.keys c.args.place c.remove-row.result c.self.invariant c.remove-row.ensures.old
