use Rattle.std.proofs.Common.{take}
use Rattle.std.specs.List.{AllByRecursion}
use Rattle.sip_dialog.specs.Met.{IsMet}
use Rattle.sip_dialog.proofs.rows.are_met.Given as goal

-- the rows so far are met
abbrev pub invariant-loop-row : goal.invariant-loop-row
invariant-loop-row l = AllByRecursion (IsMet l.now l.other.entries) (take l.row-index l.rows)
