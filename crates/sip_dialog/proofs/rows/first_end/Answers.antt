use Rattle.std.proofs.Common.{List, subst}
use Rattle.std.proofs.lemmas.List.{take_all}
use Rattle.sip_dialog.specs.Rows.{AreKnownBefore}
use Rattle.sip_dialog.proofs.Alone.{Row}
use Rattle.sip_dialog.proofs.Ending.{known_none, known_next}
use Rattle.sip_dialog.proofs.rows.first_end.Goals as goal

pub loop-row-init : goal.loop-row-init
loop-row-init c = known_none _

pub loop-row-preserved : goal.loop-row-preserved
loop-row-preserved c =
    known_next c.loop-row.until c.args.rows.now c.loop-row.row-index c.row-item.result c.earlier_end-until.result c.loop-row.invariant c.loop-row-test.true c.row-item.is
    c.earlier_end-until.ensures.until c.earlier_end-until.ensures.since

pub returns : goal.returns
returns c = subst (λ (l : List Row). AreKnownBefore c.loop-row.until l) (take_all c.loop-row.row-index c.args.rows.now c.loop-row-test.false) c.loop-row.invariant
