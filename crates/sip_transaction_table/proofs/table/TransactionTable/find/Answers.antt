use Rattle.std.proofs.Common.{◌≡◌, sym, ◌∙◌, ap, true}
use Rattle.std.specs.Prelude.{slice_get}
use Rattle.std.specs.Option.{option_and_then}
use Rattle.sip_transaction_table.specs.Key.{same_key}
use Rattle.sip_transaction_table.proofs.Filing.{not_filed, place_of}
use Rattle.sip_transaction_table.proofs.Places.{found}
use Rattle.sip_transaction_table.proofs.table.TransactionTable.find.Goals as goal

pub returns-in-None-clause-place : goal.returns-in-None-clause-place
returns-in-None-clause-place g c = rw (← c.self.view_is) (sym (not_filed g.R.TransactionRow.key c.self.inside.rows c.self.inside.keys c.args.key.now c.self.invariant
    c.in-None.ensures))

pub returns-in-None-clause-row : goal.returns-in-None-clause-row
returns-in-None-clause-row g c =
    rw (← c.self.view_is) (ap (option_and_then (slice_get c.self.inside.rows)) (sym (not_filed g.R.TransactionRow.key c.self.inside.rows c.self.inside.keys c.args.key.now
    c.self.invariant c.in-None.ensures))
    ∙ found (λ r. same_key (g.R.TransactionRow.key r) c.args.key.now) c.self.inside.rows)

pub returns-then-same_key-clause-place : goal.returns-then-same_key-clause-place
returns-then-same_key-clause-place g c =
    let passes : same_key (g.R.TransactionRow.key c.get.result.now) c.args.key.now ≡ true = ap (λ k. same_key k c.args.key.now) (sym c.key.ensures)
    ∙ sym c.same_key.ensures.value
    ∙ c.if-same_key.true in
    rw (← c.self.view_is) (sym (place_of g.R.TransactionRow.key c.self.inside.rows c.self.inside.keys c.in-Some-find.place c.get.result.now c.args.key.now
    c.self.invariant c.get.ensures.row passes))

pub returns-then-same_key-clause-row : goal.returns-then-same_key-clause-row
returns-then-same_key-clause-row g c =
    ap (option_and_then (slice_get c.args.self.now.rows)) (returns-then-same_key-clause-place g c)
    ∙ found (λ r. same_key (g.R.TransactionRow.key r) c.args.key.now) c.args.self.now.rows

pub returns-clause-row : goal.returns-clause-row
returns-clause-row g c =
    rw (← c.self.view_is) (ap (option_and_then (slice_get c.self.inside.rows)) c.scan.ensures
    ∙ found (λ r. same_key (g.R.TransactionRow.key r) c.args.key.now) c.self.inside.rows)
