use Rattle.std.proofs.Common.{◌≡◌, ◌++◌}
use Rattle.sipd_page_sections.specs.Notes.{looked}
use Rattle.sipd_page_sections.proofs.notes.look.Given as goal

-- so many moments were looked at
abbrev pub invariant-loop-n : goal.invariant-loop-n
invariant-loop-n l = l.live ≡ l.fn.live ++ looked l.rows l.first l.n
