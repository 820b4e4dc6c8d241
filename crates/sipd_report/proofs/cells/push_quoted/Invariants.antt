use Rattle.std.proofs.Common.{◌≡◌, ◌++◌, take}
use Rattle.std.specs.List.{flat_map}
use Rattle.sipd_report.specs.Cells.{quoted_byte}
use Rattle.sipd_report.proofs.cells.push_quoted.Given as goal

-- the bytes so far are written
abbrev pub invariant-loop-byte : goal.invariant-loop-byte
invariant-loop-byte l = l.row ≡ l.fn.row ++ flat_map quoted_byte (take l.byte-index l.text)
