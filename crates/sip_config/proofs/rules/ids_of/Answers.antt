use Rattle.std.proofs.Common.{ℕ, ◌+◌, [], ◌∷◌, ◌++◌, drop, List, ap, ◌∙◌}
use Rattle.std.proofs.lemmas.Result.{err_from_is_err_and}
use Rattle.toml.specs.View.{table_view, items_view}
use Rattle.sip_config_values.specs.declared.key.ConfigKey.TheVariants as keys
use Rattle.sip_config_values.specs.Rows.{rows_after}
use Rattle.sip_config.specs.Rules.{new_id}
use Rattle.sip_config.proofs.Rows.{went_on, stopped, row_at}
use Rattle.sip_config.proofs.rules.ids_of.Goals as goal

pub loop-item-preserved : goal.loop-item-preserved
loop-item-preserved c =
    let left = λ (rows : List ℕ). rows_after keys.Rules new_id rows (items_view (drop (c.loop-item.item-index + 1) c.args.items.now)) in
    let table = table_view c.in_ok-table_in.field-0.now in
    ap left c.in_ok-push.ensures.ok
    ∙ went_on (new_id c.loop-item.ids table) (λ row. left (c.loop-item.ids ++ row ∷ [])) c.in_ok-id.id
    (rows_after keys.Rules new_id c.loop-item.ids (items_view (drop c.loop-item.item-index c.args.items.now)))
    (rows_after keys.Rules new_id [] (items_view c.args.items.now))
    (row_at keys.Rules new_id c.args.items.now c.loop-item.item-index c.item-item.result c.loop-item.ids table c.loop-item-test.true c.item-item.is
    c.in_ok-table_in.ensures) c.loop-item.invariant (rw c.as_slice.ensures at c.in_ok-id.ensures)

pub returns-in_err-id : goal.returns-in_err-id
returns-in_err-id c =
    let p = err_from_is_err_and c.from_residual-in_err-id.result c.from_residual-in_err-id.ensures.1 in
    let table = table_view c.in_ok-table_in.field-0.now in
    rw (p.1, p.2)
    (stopped (λ (row : ℕ). row) (λ (rows : List ℕ). rows) c.in_err-id.field-0.0 (new_id c.loop-item.ids table)
    (λ row. rows_after keys.Rules new_id (c.loop-item.ids ++ row ∷ []) (items_view (drop (c.loop-item.item-index + 1) c.args.items.now)))
    (rows_after keys.Rules new_id c.loop-item.ids (items_view (drop c.loop-item.item-index c.args.items.now)))
    (rows_after keys.Rules new_id [] (items_view c.args.items.now))
    (row_at keys.Rules new_id c.args.items.now c.loop-item.item-index c.item-item.result c.loop-item.ids table c.loop-item-test.true c.item-item.is
    c.in_ok-table_in.ensures) c.loop-item.invariant (rw c.as_slice.ensures at c.in_err-id.ensures))
