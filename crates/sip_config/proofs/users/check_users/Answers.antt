use Rattle.std.proofs.Common.{◌+◌, drop}
use Rattle.std.proofs.lemmas.Result.{err_from_is_err_and}
use Rattle.toml.specs.View.{table_view, items_view}
use Rattle.sip_config_values.specs.declared.key.ConfigKey.TheVariants as keys
use Rattle.sip_config_values.specs.Rows.{all_pass}
use Rattle.sip_config.specs.Users.{user_line}
use Rattle.sip_config.proofs.Rows.{went_on, stopped, pass_at}
use Rattle.sip_config.proofs.users.check_users.Goals as goal

pub loop-at-preserved : goal.loop-at-preserved
loop-at-preserved c =
    let line = user_line c.args.line in
    let table = table_view c.in_ok-table_in.field-0.now in
    went_on (line c.loop-at.at table) (λ _. all_pass keys.Users line (c.loop-at.at + 1) (items_view (drop (c.loop-at.at + 1) c.args.items.now)))
    c.in_ok-check_user.field-0
    (all_pass keys.Users line c.loop-at.at (items_view (drop c.loop-at.at c.args.items.now))) (all_pass keys.Users line 0 (items_view c.args.items.now))
    (pass_at keys.Users line c.loop-at.at c.args.items.now c.loop-at.at c.index-items-at.result table c.loop-at-test.true c.index-items-at.is c.in_ok-table_in.ensures)
    c.loop-at.invariant c.in_ok-check_user.ensures

pub returns-in_err-check_user : goal.returns-in_err-check_user
returns-in_err-check_user c =
    let p = err_from_is_err_and c.from_residual-in_err-check_user.result c.from_residual-in_err-check_user.ensures.1 in
    let line = user_line c.args.line in
    let table = table_view c.in_ok-table_in.field-0.now in
    rw (p.1, p.2)
    (stopped (λ (done : Unit {0}). done) (λ (done : Unit {0}). done) c.in_err-check_user.field-0.0 (line c.loop-at.at table)
    (λ _. all_pass keys.Users line (c.loop-at.at + 1) (items_view (drop (c.loop-at.at + 1) c.args.items.now)))
    (all_pass keys.Users line c.loop-at.at (items_view (drop c.loop-at.at c.args.items.now))) (all_pass keys.Users line 0 (items_view c.args.items.now))
    (pass_at keys.Users line c.loop-at.at c.args.items.now c.loop-at.at c.index-items-at.result table c.loop-at-test.true c.index-items-at.is c.in_ok-table_in.ensures)
    c.loop-at.invariant c.in_err-check_user.ensures)
