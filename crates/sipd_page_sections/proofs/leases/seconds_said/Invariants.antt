use Rattle.std.proofs.Common.{◌≡◌, drop}
use Rattle.std.specs.Prelude.{fold}
use Rattle.sipd_page_sections.specs.Notes.{seconds_said, with_digit}
use Rattle.sipd_page_sections.proofs.leases.seconds_said.Given as goal

-- what the bytes that are left make of the number is what all make
abbrev pub invariant-loop-byte : goal.invariant-loop-byte
invariant-loop-byte l = fold with_digit l.seconds (drop l.byte-index l.value) ≡ seconds_said l.value
