use Rattle.std.proofs.Common.{◌≡◌, drop}
use Rattle.std.specs.Prelude.{fold}
use Rattle.sipd_page.specs.History.{with_line}
use Rattle.sipd_page.proofs.history.push_lines.Given as goal

-- what the records that are left make of the lines is what all make
abbrev pub invariant-loop-decision : goal.invariant-loop-decision
invariant-loop-decision l = fold with_line l.lines (drop l.decision-index l.records) ≡ fold with_line l.fn.lines l.records
