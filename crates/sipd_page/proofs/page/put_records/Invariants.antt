use Rattle.std.proofs.Common.{map, take}
use Rattle.std.specs.Prelude.{string_bytes}
use Rattle.sipd_page.specs.Page.{AddsSections}
use Rattle.sipd_page.proofs.page.put_records.Given as goal

-- the records so far were added
abbrev pub invariant-loop-path : goal.invariant-loop-path
invariant-loop-path g l = AddsSections (map string_bytes (take l.path-index l.paths)) l.initial.body l.body
