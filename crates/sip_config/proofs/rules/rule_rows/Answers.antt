use Rattle.std.proofs.Common.{◌+◌, [], ◌∷◌, ◌++◌, drop, List, ap, ◌∙◌}
use Rattle.std.proofs.lemmas.Result.{err_from_is_err_and}
use Rattle.toml.specs.View.{table_view, items_view}
use Rattle.sip_policy.specs.declared.rule.Rule.{Rule}
use Rattle.sip_config_values.specs.declared.key.ConfigKey.TheVariants as keys
use Rattle.sip_config_values.specs.Rows.{rows_after}
use Rattle.sip_config.specs.Rules.{rule_at}
use Rattle.sip_config.proofs.Rows.{went_on, stopped, row_at}
use Rattle.sip_config.proofs.rules.rule_rows.Goals as goal

pub loop-item-preserved : goal.loop-item-preserved
loop-item-preserved c =
    let read = rule_at c.args.version c.args.users.now c.args.hops.now in
    let left = λ (rows : List Rule). rows_after keys.Rules read rows (items_view (drop (c.loop-item.item-index + 1) c.args.items.now)) in
    let table = table_view c.in_ok-table.table.now in
    ap left c.in_ok-push.ensures.ok
    ∙ went_on (read c.loop-item.rules table) (λ rule. left (c.loop-item.rules ++ rule ∷ [])) c.in_ok-rule.rule
    (rows_after keys.Rules read c.loop-item.rules (items_view (drop c.loop-item.item-index c.args.items.now)))
    (rows_after keys.Rules read [] (items_view c.args.items.now))
    (row_at keys.Rules read c.args.items.now c.loop-item.item-index c.item-item.result c.loop-item.rules table c.loop-item-test.true c.item-item.is c.in_ok-table.ensures)
    c.loop-item.invariant (rw c.as_slice.ensures at c.in_ok-rule.ensures)

pub returns-in_err-rule : goal.returns-in_err-rule
returns-in_err-rule c =
    let p = err_from_is_err_and c.from_residual-in_err-rule.result c.from_residual-in_err-rule.ensures.1 in
    let read = rule_at c.args.version c.args.users.now c.args.hops.now in
    let table = table_view c.in_ok-table.table.now in
    rw (p.1, p.2)
    (stopped (λ (rule : Rule). rule) (λ (rules : List Rule). rules) c.in_err-rule.field-0.0 (read c.loop-item.rules table)
    (λ rule. rows_after keys.Rules read (c.loop-item.rules ++ rule ∷ []) (items_view (drop (c.loop-item.item-index + 1) c.args.items.now)))
    (rows_after keys.Rules read c.loop-item.rules (items_view (drop c.loop-item.item-index c.args.items.now)))
    (rows_after keys.Rules read [] (items_view c.args.items.now))
    (row_at keys.Rules read c.args.items.now c.loop-item.item-index c.item-item.result c.loop-item.rules table c.loop-item-test.true c.item-item.is c.in_ok-table.ensures)
    c.loop-item.invariant (rw c.as_slice.ensures at c.in_err-rule.ensures))
