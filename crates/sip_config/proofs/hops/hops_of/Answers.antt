use Rattle.std.proofs.Common.{◌+◌, [], ◌∷◌, ◌++◌, drop, List, ap, ◌∙◌}
use Rattle.std.proofs.lemmas.Result.{err_from_is_err_and}
use Rattle.toml.specs.View.{table_view, items_view}
use Rattle.sip_hops.specs.declared.hop.Hop.{Hop}
use Rattle.sip_config_values.specs.declared.key.ConfigKey.TheVariants as keys
use Rattle.sip_config_values.specs.Rows.{rows_after}
use Rattle.sip_config.specs.Hops.{new_hop}
use Rattle.sip_config.proofs.Rows.{went_on, stopped, row_at}
use Rattle.sip_config.proofs.hops.hops_of.Goals as goal

pub loop-item-preserved : goal.loop-item-preserved
loop-item-preserved c =
    let left = λ (rows : List Hop). rows_after keys.Hops new_hop rows (items_view (drop (c.loop-item.item-index + 1) c.args.items.now)) in
    let table = table_view c.in_ok-table_in.field-0.now in
    ap left c.in_ok-push.ensures.ok
    ∙ went_on (new_hop c.loop-item.hops table) (λ row. left (c.loop-item.hops ++ row ∷ [])) c.in_ok-hop.hop
    (rows_after keys.Hops new_hop c.loop-item.hops (items_view (drop c.loop-item.item-index c.args.items.now)))
    (rows_after keys.Hops new_hop [] (items_view c.args.items.now))
    (row_at keys.Hops new_hop c.args.items.now c.loop-item.item-index c.item-item.result c.loop-item.hops table c.loop-item-test.true c.item-item.is
    c.in_ok-table_in.ensures) c.loop-item.invariant (rw c.as_slice.ensures at c.in_ok-hop.ensures)

pub returns-in_err-hop : goal.returns-in_err-hop
returns-in_err-hop c =
    let p = err_from_is_err_and c.from_residual-in_err-hop.result c.from_residual-in_err-hop.ensures.1 in
    let table = table_view c.in_ok-table_in.field-0.now in
    rw (p.1, p.2)
    (stopped (λ (row : Hop). row) (λ (rows : List Hop). rows) c.in_err-hop.field-0.0 (new_hop c.loop-item.hops table)
    (λ row. rows_after keys.Hops new_hop (c.loop-item.hops ++ row ∷ []) (items_view (drop (c.loop-item.item-index + 1) c.args.items.now)))
    (rows_after keys.Hops new_hop c.loop-item.hops (items_view (drop c.loop-item.item-index c.args.items.now)))
    (rows_after keys.Hops new_hop [] (items_view c.args.items.now))
    (row_at keys.Hops new_hop c.args.items.now c.loop-item.item-index c.item-item.result c.loop-item.hops table c.loop-item-test.true c.item-item.is
    c.in_ok-table_in.ensures) c.loop-item.invariant (rw c.as_slice.ensures at c.in_err-hop.ensures))
