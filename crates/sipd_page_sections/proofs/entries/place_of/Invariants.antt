use Rattle.std.proofs.Common.{◌≡◌, ◌+◌, drop}
use Rattle.std.specs.List.{position_or_len}
use Rattle.sipd_page_sections.specs.Entries.{is_of}
use Rattle.sipd_page_sections.proofs.entries.place_of.Given as goal

-- none of those before has the key
abbrev pub invariant-loop-i : goal.invariant-loop-i
invariant-loop-i l = position_or_len (is_of l.key) l.rows ≡ l.i + position_or_len (is_of l.key) (drop l.i l.rows)
