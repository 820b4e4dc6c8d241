use Rattle.std.proofs.Common.{◌≡◌, ◌≤◌, take}
use Rattle.std.specs.Prelude.{count_by}
use Rattle.sipd_config_faults.specs.Encoding.{is_line_end}
use Rattle.sipd_config_faults.proofs.line_number.ends_in.Given as goal

-- the lines of the bytes so far
abbrev pub invariant-loop-byte : goal.invariant-loop-byte
invariant-loop-byte l = (l.ends ≡ count_by is_line_end (take l.byte-index l.bytes)) × (l.ends ≤ l.byte-index)
