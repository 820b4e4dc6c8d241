use Rattle.std.proofs.Common.{ℕ, ◌+◌, [], drop, List}
use Rattle.std.proofs.lemmas.Result.{err_from_is_err_and}
use Rattle.toml.specs.View.{table_view, items_view}
use Rattle.sip_config_values.specs.declared.key.ConfigKey.TheVariants as keys
use Rattle.sip_config_values.specs.Rows.{rows_after}
use Rattle.sip_config.specs.Users.{new_name, name_behind}
use Rattle.sip_config.proofs.Rows.{went_on, stopped, rows_at}
use Rattle.sip_config.proofs.users.names_of.Goals as goal

pub loop-item-preserved : goal.loop-item-preserved
loop-item-preserved c =
    let table = table_view c.in_ok-table_in.field-0.now in
    went_on (name_behind c.loop-item.names table) (λ names. rows_after keys.Users new_name names (items_view (drop (c.loop-item.item-index + 1) c.args.items.now)))
    c.add_name.new.names
    (rows_after keys.Users new_name c.loop-item.names (items_view (drop c.loop-item.item-index c.args.items.now)))
    (rows_after keys.Users new_name [] (items_view c.args.items.now))
    (rows_at keys.Users new_name c.args.items.now c.loop-item.item-index c.item-item.result c.loop-item.names table c.loop-item-test.true c.item-item.is
    c.in_ok-table_in.ensures) c.loop-item.invariant c.in_ok-add_name.ensures

pub returns-in_err-add_name : goal.returns-in_err-add_name
returns-in_err-add_name c =
    let p = err_from_is_err_and c.from_residual-in_err-add_name.result c.from_residual-in_err-add_name.ensures.1 in
    let table = table_view c.in_ok-table_in.field-0.now in
    rw (p.1, p.2)
    (stopped (λ (done : Unit {0}). c.add_name.new.names) (λ (names : List (List ℕ)). names) c.in_err-add_name.field-0.0 (name_behind c.loop-item.names table)
    (λ names. rows_after keys.Users new_name names (items_view (drop (c.loop-item.item-index + 1) c.args.items.now)))
    (rows_after keys.Users new_name c.loop-item.names (items_view (drop c.loop-item.item-index c.args.items.now)))
    (rows_after keys.Users new_name [] (items_view c.args.items.now))
    (rows_at keys.Users new_name c.args.items.now c.loop-item.item-index c.item-item.result c.loop-item.names table c.loop-item-test.true c.item-item.is
    c.in_ok-table_in.ensures) c.loop-item.invariant c.in_err-add_name.ensures)
