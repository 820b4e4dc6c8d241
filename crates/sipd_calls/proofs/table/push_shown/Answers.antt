use Rattle.std.proofs.Common.{◌≡◌}
use Rattle.std.proofs.lemmas.Result.{IfOk-weaker, on_ok_weaker}
use Rattle.sipd_calls.specs.Choices.{is_shown}
use Rattle.sipd_calls.specs.Table.{row_behind, rows_with, shown_with}
use Rattle.sipd_calls.proofs.Shown.{kept_hidden, kept_shown, text_hidden, text_shown}
use Rattle.sipd_calls.proofs.table.push_shown.Goals as goal

pub returns-then-shown-clause-text : goal.returns-then-shown-clause-text
returns-then-shown-clause-text c =
    on_ok_weaker c.push_call.result
    (λ h. text_shown (is_shown c.args.choice.now c.args.call.now) c.in_ok-shown.shown c.args.out.now (row_behind c.args.rows c.args.call.now)
    c.push_call.new.out c.in_ok-shown.ensures c.if-shown.true h) c.push_call.ensures.text

pub returns-then-shown-clause-rows : goal.returns-then-shown-clause-rows
returns-then-shown-clause-rows c =
    IfOk-weaker c.push_call.result (λ next. next ≡ rows_with c.args.rows c.args.call.now)
    (λ next. next ≡ shown_with c.args.choice.now c.args.rows c.args.call.now)
    (λ next is. kept_shown (is_shown c.args.choice.now c.args.call.now) c.in_ok-shown.shown c.args.rows (rows_with c.args.rows c.args.call.now) next
    c.in_ok-shown.ensures c.if-shown.true is) c.push_call.ensures.rows

pub returns-clause-text : goal.returns-clause-text
returns-clause-text c =
    text_hidden (is_shown c.args.choice.now c.args.call.now) c.in_ok-shown.shown c.args.out.now (row_behind c.args.rows c.args.call.now)
    c.in_ok-shown.ensures c.if-shown.false

pub returns-clause-rows : goal.returns-clause-rows
returns-clause-rows c =
    kept_hidden (is_shown c.args.choice.now c.args.call.now) c.in_ok-shown.shown c.args.rows (rows_with c.args.rows c.args.call.now)
    c.in_ok-shown.ensures c.if-shown.false
