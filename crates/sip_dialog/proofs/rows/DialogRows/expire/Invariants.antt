use Rattle.sip_dialog.proofs.Leaving.{Leaves, lapses}
use Rattle.sip_dialog.proofs.rows.DialogRows.expire.Given as goal

abbrev pub invariant-loop-at : goal.invariant-loop-at
invariant-loop-at l = Leaves (lapses l.number) l.at l.fn.self l.self

abbrev pub decreases-loop-at : goal.decreases-loop-at
decreases-loop-at l = l.at
