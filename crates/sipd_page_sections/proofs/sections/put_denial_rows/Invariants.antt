use Rattle.std.proofs.Common.{◌≡◌, ◌++◌, take}
use Rattle.std.specs.List.{flat_map}
use Rattle.sipd_page_sections.specs.Sections.{denial_row}
use Rattle.sipd_page_sections.proofs.sections.put_denial_rows.Given as goal

-- what is written so far
abbrev pub invariant-loop-row : goal.invariant-loop-row
invariant-loop-row l = l.out ≡ l.fn.out ++ flat_map denial_row (take l.row-index l.rows)
