use Rattle.std.proofs.Common.{◌++◌, ◌∙◌, ap}
use Rattle.sipd_ladder.specs.declared.rung.Rung.{Rung}
use Rattle.sipd_ladder_picture.specs.Rows.{rung_row}
use Rattle.sipd_ladder_picture.proofs.Order.{next_row}
use Rattle.sipd_ladder_picture.proofs.rows.put_rungs.Goals as goal

pub loop-row-preserved : goal.loop-row-preserved
loop-row-preserved c =
    next_row c.args.first c.args.places.now c.args.rungs.now c.loop-row.row c.index-rungs-row.result c.args.out.now c.loop-row.out c.put_rung.new.out
    c.loop-row-test.true c.loop-row.invariant
    (c.in_ok-put_rung.ensures ∙ ap (λ (rung : Rung). c.loop-row.out ++ rung_row c.args.first c.args.places.now c.loop-row.row rung) c.index-rungs-row.is)
