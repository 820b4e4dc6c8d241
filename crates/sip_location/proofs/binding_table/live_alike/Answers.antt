use Rattle.std.proofs.Common.{arith}
use Rattle.std.proofs.lemmas.List.{take_all}
use Rattle.sip_location.proofs.Alive.{alive_all, alive_more}
use Rattle.sip_location.proofs.binding_table.live_alike.Goals as goal

pub loop-row-preserved : goal.loop-row-preserved
loop-row-preserved c =
    alive_more c.args.now c.args.left.now c.args.right.now c.loop-row.row-index c.row-item.result c.loop-row.rest.now c.in-Some.others.now c.loop-row-test.true
    c.row-item.is c.in-Some.ensures c.loop-row.invariant

pub returns-in-None : goal.returns-in-None
returns-in-None c = λ _.
    alive_all c.args.now c.args.left.now c.args.right.now c.loop-row.row-index c.loop-row.rest.now (take_all c.loop-row.row-index c.args.left.now (omega arith))
    c.in-None.ensures c.loop-row.invariant
