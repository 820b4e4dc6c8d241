use Rattle.sipd_calls.proofs.Parts.{one_more}
use Rattle.sipd_standing.specs.Standing.{if_standing}
use Rattle.sipd_standing.proofs.table.push_all.Goals as goal

pub loop-call-preserved : goal.loop-call-preserved
loop-call-preserved c =
    one_more (if_standing c.args.form c.args.at) c.args.calls.now c.loop-call.call-index c.call-item.result c.args.out.now c.loop-call.out
    c.push_if_standing.new.out c.loop-call-test.true c.call-item.is c.loop-call.invariant c.in_ok-push_if_standing.ensures
