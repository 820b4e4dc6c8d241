use Rattle.std.proofs.Common.{◌≡◌, drop}
use Rattle.std.specs.Prelude.{fold}
use Rattle.sipd_page_sections.specs.Notes.{longest_in, with_contact}
use Rattle.sipd_page_sections.proofs.leases.longest_in.Given as goal

-- what the fields that are left make of it is what all make
abbrev pub invariant-loop-field : goal.invariant-loop-field
invariant-loop-field l = fold with_contact l.seconds (drop l.field-index l.fields) ≡ longest_in l.fields
