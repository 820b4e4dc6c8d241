use Rattle.std.proofs.Common.{List, refl, subst, arith}
use Rattle.std.specs.List.{AllByRecursion}
use Rattle.std.proofs.lemmas.List.{take_all}
use Rattle.sip_text.proofs.Each.{each_more}
use Rattle.sip_dialog.specs.Met.{IsMet}
use Rattle.sip_dialog.proofs.Alone.{Row}
use Rattle.sip_dialog.proofs.rows.are_met.Goals as goal

pub loop-row-init : goal.loop-row-init
loop-row-init c = tt

pub loop-row-preserved : goal.loop-row-preserved
loop-row-preserved c =
    each_more (IsMet c.args.now c.args.other.now.entries) c.args.rows.now c.loop-row.row-index c.row-item.result c.loop-row-test.true c.row-item.is
    c.loop-row.invariant (c.if-not-meets.ensures refl)

pub returns : goal.returns
returns c = λ _.
    subst (λ (rows : List Row). AllByRecursion (IsMet c.args.now c.args.other.now.entries) rows) (take_all c.loop-row.row-index c.args.rows.now (omega arith))
    c.loop-row.invariant
