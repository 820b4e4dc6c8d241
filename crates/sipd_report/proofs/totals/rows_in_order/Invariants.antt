use Rattle.std.proofs.Common.{◌≡◌, map, take}
use Rattle.sipd_report.specs.Totals.{shown_total, lent_total, in_order}
use Rattle.sipd_report.proofs.totals.rows_in_order.Given as goal

-- the totals so far stand in order
abbrev pub invariant-loop-total : goal.invariant-loop-total
invariant-loop-total l = map lent_total l.rows.items ≡ in_order (map shown_total (take l.total-index l.totals))
