use Rattle.std.specs.Prelude.{nat_lt}
use Rattle.std.proofs.lemmas.Result.{on_ok_weaker}
use Rattle.sipd_calls.proofs.Shown.{text_hidden, text_shown}
use Rattle.sipd_standing.specs.PhoneTable.{row_in}
use Rattle.sipd_standing.proofs.phone_table.push_if_live.Goals as goal

pub returns-then-live : goal.returns-then-live
returns-then-live c =
    on_ok_weaker c.push_binding.result
    (λ h. text_shown (nat_lt c.args.at c.args.binding.now.expires_at) c.is_live-live.result c.args.out.now
    (row_in c.args.form c.args.at c.args.row.now c.args.binding.now) c.push_binding.new.out c.is_live-live.ensures c.if-live.true h) c.push_binding.ensures

pub returns : goal.returns
returns c =
    text_hidden (nat_lt c.args.at c.args.binding.now.expires_at) c.is_live-live.result c.args.out.now
    (row_in c.args.form c.args.at c.args.row.now c.args.binding.now) c.is_live-live.ensures c.if-live.false
