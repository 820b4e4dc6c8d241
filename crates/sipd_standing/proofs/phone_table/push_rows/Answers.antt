use Rattle.sipd_calls.proofs.Parts.{one_more}
use Rattle.sipd_standing.specs.PhoneTable.{rows_of}
use Rattle.sipd_standing.proofs.phone_table.push_rows.Goals as goal

pub loop-row-preserved : goal.loop-row-preserved
loop-row-preserved g c =
    one_more (rows_of c.args.form c.args.engine.now.state c.args.at) c.args.rows.now c.loop-row.row-index c.row-item.result c.args.out.now c.loop-row.out
    c.push_phone.new.out c.loop-row-test.true c.row-item.is c.loop-row.invariant c.in_ok-push_phone.ensures
