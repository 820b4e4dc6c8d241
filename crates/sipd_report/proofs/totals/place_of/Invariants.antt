use Rattle.std.proofs.Common.{◌≡◌, ◌+◌, drop}
use Rattle.sipd_report.specs.Totals.{shown_total, place_among}
use Rattle.sipd_report.proofs.totals.place_of.Given as goal

-- it belongs behind the rows so far
abbrev pub invariant-loop-at : goal.invariant-loop-at
invariant-loop-at l = place_among (shown_total l.total) l.rows ≡ l.at + place_among (shown_total l.total) (drop l.at l.rows)
