use Rattle.std.proofs.Common.{◌≡◌, drop}
use Rattle.sipd_page_sections.specs.Log.{lines_behind, log_lines}
use Rattle.sipd_page.proofs.log.log_lines.Given as goal

-- what the bytes that are left make of the lines is what all make
abbrev pub invariant-loop-byte : goal.invariant-loop-byte
invariant-loop-byte l = lines_behind l.lines l.line (drop l.byte-index l.log) ≡ log_lines l.log
