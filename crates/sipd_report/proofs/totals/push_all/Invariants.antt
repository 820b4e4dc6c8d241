use Rattle.std.proofs.Common.{◌≡◌, ◌++◌, map, take}
use Rattle.std.specs.List.{flat_map}
use Rattle.sipd_report.specs.Report.{total_text}
use Rattle.sipd_report.specs.Totals.{lent_total}
use Rattle.sipd_report.proofs.totals.push_all.Given as goal

-- the rows so far are written
abbrev pub invariant-loop-row : goal.invariant-loop-row
invariant-loop-row l = l.text ≡ l.fn.text ++ flat_map total_text (map lent_total (take l.row-index l.rows))
