use Rattle.sip_dialog.proofs.Leaving.{Leaves, is_old}
use Rattle.sip_dialog.proofs.rows.DialogRows.forget.Given as goal

-- behind this place all rows are of known dialogs
abbrev pub invariant-loop-place : goal.invariant-loop-place
invariant-loop-place l = Leaves (is_old l.now) l.place l.fn.self l.self

abbrev pub decreases-loop-place : goal.decreases-loop-place
decreases-loop-place l = l.place
