use Rattle.std.proofs.Common.{rules, ℕ, ◌∙◌, subst}
use Rattle.std.specs.List.Sorted.{IsSearchInRange}
use Rattle.std.proofs.lemmas.List.Sorted.{answers_always}
use Rattle.sip_transaction_table.proofs.Numbers.{searched}
use Rattle.sip_transaction_table.proofs.numbered_rows.NumberedRows.bisect.Goals as goal

pub returns : goal.returns
returns g c =
    let facts = c.binary_search_by_key.ensures in
    let by_number = facts.position g.R.TransactionRow.number (answers_always _ _ _ (λ f a r h called. search rules)) in
    let in_range = subst (λ (n : ℕ). IsSearchInRange c.binary_search_by_key.result n) c.self.inside.rows.ok.0 facts.bound in
    rw (← c.self.view_is) (c.ok.ensures.value ∙ searched g.R.TransactionRow.number _ c.args.number _ c.self.invariant.rise in_range by_number)
