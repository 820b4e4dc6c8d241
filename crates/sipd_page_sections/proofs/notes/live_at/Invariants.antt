use Rattle.std.proofs.Common.{◌≡◌, drop}
use Rattle.std.specs.Prelude.{fold}
use Rattle.sipd_page_sections.specs.Notes.{live_at, with_live}
use Rattle.sipd_page_sections.proofs.notes.live_at.Given as goal

-- what the rows that are left count is what all count
abbrev pub invariant-loop-row : goal.invariant-loop-row
invariant-loop-row l = fold (with_live l.at) l.count (drop l.row-index l.rows) ≡ live_at l.at l.rows
