use Rattle.std.proofs.Common.{◌≡◌, ◌++◌, take, map}
use Rattle.sipd_report.specs.Report.{shown_byte}
use Rattle.sipd_report.proofs.tally.push_shown.Given as goal

-- the bytes so far are written
abbrev pub invariant-loop-byte : goal.invariant-loop-byte
invariant-loop-byte l = l.text ≡ l.fn.text ++ map shown_byte (take l.byte-index l.bytes)
