use Rattle.std.proofs.Common.{take}
use Rattle.sip_dialog.specs.Rows.{AreKnownBefore}
use Rattle.sip_dialog.proofs.rows.first_end.Given as goal

-- those so far are known until then
abbrev pub invariant-loop-row : goal.invariant-loop-row
invariant-loop-row l = AreKnownBefore l.until (take l.row-index l.rows)
