use Rattle.std.proofs.Common.{◌≡◌, ℕ, ◌+◌, sym, ◌∙◌, ap, true}
use Rattle.std.specs.Prelude.{slice_get}
use Rattle.std.specs.Option.{option_and_then}
use Rattle.sip_transaction_table.specs.Key.{is_cancelled_by}
use Rattle.sip_transaction_table.proofs.Filing.{none_named, named_alone}
use Rattle.sip_transaction_table.proofs.Places.{found}
use Rattle.sip_transaction_table.proofs.table.TransactionTable.find_cancelled.Goals as goal

pub returns-in-None-clause-place : goal.returns-in-None-clause-place
returns-in-None-clause-place g c = rw (← c.self.view_is) (sym (none_named g.R.TransactionRow.key c.self.inside.rows c.self.inside.keys c.args.key.now c.self.invariant
    c.in-None.ensures.none))

pub returns-in-None-clause-row : goal.returns-in-None-clause-row
returns-in-None-clause-row g c =
    ap (option_and_then (slice_get c.args.self.now.rows)) (returns-in-None-clause-place g c)
    ∙ found (λ r. is_cancelled_by c.args.key.now (g.R.TransactionRow.key r)) c.args.self.now.rows

pub returns-then-is_cancelled_by-clause-place : goal.returns-then-is_cancelled_by-clause-place
returns-then-is_cancelled_by-clause-place g c =
    let passes : is_cancelled_by c.args.key.now (g.R.TransactionRow.key c.get.result.now) ≡ true = ap (is_cancelled_by c.args.key.now) (sym c.key.ensures)
    ∙ sym c.is_cancelled_by.ensures ∙ c.if-is_cancelled_by.true in
    let one = c.in-Some.ensures.some ∙ ap (λ (n : ℕ). n + 1) c.if-hint-eq0.true in
    rw (← c.self.view_is) (sym (named_alone g.R.TransactionRow.key c.self.inside.rows c.self.inside.keys c.in-Some-find.only c.get.result.now c.args.key.now
    c.self.invariant one c.get.ensures.row passes))

pub returns-then-is_cancelled_by-clause-row : goal.returns-then-is_cancelled_by-clause-row
returns-then-is_cancelled_by-clause-row g c =
    ap (option_and_then (slice_get c.args.self.now.rows)) (returns-then-is_cancelled_by-clause-place g c)
    ∙ found (λ r. is_cancelled_by c.args.key.now (g.R.TransactionRow.key r)) c.args.self.now.rows

pub returns-clause-row : goal.returns-clause-row
returns-clause-row g c =
    rw (← c.self.view_is) (ap (option_and_then (slice_get c.self.inside.rows)) c.scan_cancelled.ensures
    ∙ found (λ r. is_cancelled_by c.args.key.now (g.R.TransactionRow.key r)) c.self.inside.rows)
