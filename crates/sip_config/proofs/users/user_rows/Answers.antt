use Rattle.std.proofs.Common.{◌+◌, [], ◌∷◌, ◌++◌, drop, List, ap, ◌∙◌}
use Rattle.std.proofs.lemmas.Result.{err_from_is_err_and}
use Rattle.toml.specs.View.{table_view, items_view}
use Rattle.sip_policy.specs.declared.user.User.{User}
use Rattle.sip_config_values.specs.declared.key.ConfigKey.TheVariants as keys
use Rattle.sip_config_values.specs.Rows.{rows_after}
use Rattle.sip_config.specs.Users.{user_at}
use Rattle.sip_config.proofs.Rows.{went_on, stopped, row_at}
use Rattle.sip_config.proofs.users.user_rows.Goals as goal

pub loop-item-preserved : goal.loop-item-preserved
loop-item-preserved c =
    let read = user_at in
    let left = λ (rows : List User). rows_after keys.Users read rows (items_view (drop (c.loop-item.item-index + 1) c.args.items.now)) in
    let table = table_view c.in_ok-table_in.field-0.now in
    ap left c.in_ok-push.ensures.ok
    ∙ went_on (read c.loop-item.users table) (λ row. left (c.loop-item.users ++ row ∷ [])) c.in_ok-user.user
    (rows_after keys.Users read c.loop-item.users (items_view (drop c.loop-item.item-index c.args.items.now)))
    (rows_after keys.Users read [] (items_view c.args.items.now))
    (row_at keys.Users read c.args.items.now c.loop-item.item-index c.item-item.result c.loop-item.users table c.loop-item-test.true c.item-item.is
    c.in_ok-table_in.ensures) c.loop-item.invariant (rw c.as_slice.ensures at c.in_ok-user.ensures)

pub returns-in_err-user : goal.returns-in_err-user
returns-in_err-user c =
    let p = err_from_is_err_and c.from_residual-in_err-user.result c.from_residual-in_err-user.ensures.1 in
    let read = user_at in
    let table = table_view c.in_ok-table_in.field-0.now in
    rw (p.1, p.2)
    (stopped (λ (row : User). row) (λ (rows : List User). rows) c.in_err-user.field-0.0 (read c.loop-item.users table)
    (λ row. rows_after keys.Users read (c.loop-item.users ++ row ∷ []) (items_view (drop (c.loop-item.item-index + 1) c.args.items.now)))
    (rows_after keys.Users read c.loop-item.users (items_view (drop c.loop-item.item-index c.args.items.now)))
    (rows_after keys.Users read [] (items_view c.args.items.now))
    (row_at keys.Users read c.args.items.now c.loop-item.item-index c.item-item.result c.loop-item.users table c.loop-item-test.true c.item-item.is
    c.in_ok-table_in.ensures) c.loop-item.invariant (rw c.as_slice.ensures at c.in_err-user.ensures))
