use Rattle.sipd_calls.specs.Table.{no_rows, rest_of}
use Rattle.sipd_calls.proofs.Rows.{at_end, one_more}
use Rattle.sipd_calls.proofs.table.table_text.Goals as goal

pub loop-call-preserved : goal.loop-call-preserved
loop-call-preserved c =
    one_more c.args.choice.now c.loop-call.out c.push_shown.new.out c.loop-call.rows c.in_ok-next.next c.args.calls.now c.loop-call.call-index c.call-item.result
    (rest_of c.args.choice.now no_rows c.args.calls.now) c.loop-call-test.true c.call-item.is c.loop-call.invariant c.in_ok-next.ensures.text
    c.in_ok-next.ensures.rows

pub returns : goal.returns
returns c =
    at_end c.args.choice.now c.loop-call.out c.push.new.out c.loop-call.rows c.args.calls.now c.loop-call.call-index c.loop-call-test.false
    c.loop-call.invariant c.in_ok-push.ensures
