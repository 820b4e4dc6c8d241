use Rattle.std.proofs.Common.{◌≡◌, drop}
use Rattle.sipd_page_sections.specs.Entries.{value_of}
use Rattle.sipd_page_sections.proofs.entries.value_of.Given as goal

-- none of those before has the key
abbrev pub invariant-loop-row : goal.invariant-loop-row
invariant-loop-row l = value_of l.key (drop l.row-index l.rows) ≡ value_of l.key l.rows
